-- The tables that an accepted sheet leaves.
use Rattle.std.specs.Prelude.{false, List, ℕ, replicate}
use Rattle.sheet.specs.declared.kinds.Kind.TheVariants.{Src}
use Rattle.sheet.specs.declared.kinds.Src.TheVariants.{Sine}
use Rattle.sheet.specs.Numbers.{numbers_of}
use Rattle.sheet.specs.Record.{first}
use Rattle.layout.specs.declared.Role.TheVariants.{Out}
use Rattle.layout.specs.Tables.{Table, Listed, roles_of}
use Rattle.plan.specs.Planned.{Planned}
use Rattle.tables.specs.declared.Tables.{Tables}

-- tables of which nothing is set yet; what stands in them then is never read
abbrev pub blank : {N M : ℕ} → Tables N M
blank {N} {M} = record { kinds = replicate N (Src Sine); firsts = replicate N 0; nexts = replicate N 0; lasts = replicate N false; acts = replicate N Out; begins = replicate N 0; afters = replicate N 0; places = replicate M 0; words = replicate M 0; blocks = replicate M 0 }

pub record Made {N M : ℕ} (s : List ℕ) (count : ℕ) (t : Tables N M) : Type 0 where
  pub first_at : Table (first s) count t.firsts
  pub planned : Planned s count (numbers_of t.kinds) t.nexts (roles_of t.acts) t.begins t.afters t.places t.words t.blocks

pub listed-of : {N M : ℕ} {s : List ℕ} {count : ℕ} {t : Tables N M} → Made s count t → Listed s count (numbers_of t.kinds) t.firsts t.nexts
listed-of m = record { passed = m.planned.passed; kind_at = m.planned.kind_at; first_at = m.first_at; next_at = m.planned.next_at }
