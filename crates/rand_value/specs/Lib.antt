pub mod Rand
