mod Catch
pub mod RandPhase
