-- Where links lead: to records, and there are at most 256; each has a kind.
use Rattle.std.specs.Prelude.{ℕ, ◌≤◌, ◌<◌, length, get_or}
use Rattle.sheet.specs.Numbers.{kind_number}
use Rattle.layout.specs.Tables.{long-of}
use Rattle.layout.specs.declared.Links.{Links}
use Rattle.layout.proofs.Tables.{first-within, next-within}

pub first_within : (links : Links) (i : ℕ) → i < links.count → (get_or links.firsts.now i 0 < links.count) × (links.count ≤ 256)
first_within links i h = (first-within links.listed i h, links.listed.passed.small)

pub next_within : (links : Links) (i : ℕ) → i < links.count → (get_or links.nexts.now i 0 < links.count) × (links.count ≤ 256)
next_within links i h = (next-within links.listed i h, links.listed.passed.small)

pub kinds_long : (links : Links) → links.count ≤ length links.kinds.now
kinds_long links = long-of kind_number links.kinds.now links.listed.kind_at
