-- What a table of groups tells of a run.
use Rattle.std.specs.Prelude.{◌≡◌, ℕ, ◌<◌, false, T, ◌↔◌, Option, None, MatchOption, slice_index_or}
use Rattle.model.specs.Runs.{Run, First, Last, Next}
use Rattle.conformance.specs.declared.group_table.Groups.{Groups}
use Rattle.conformance.specs.declared.group_table.Place.{Place}

-- copies i and j have one parent and one block
abbrev pub Alike : Run → ℕ → ℕ → Type 0
Alike r i j = (r.parent j ≡ r.parent i) × (r.block j ≡ r.block i)

-- copy q is the last of its group where there is no `next`, else `next` is the next copy of its group
abbrev pub NextOrLast : Run → ℕ → Option ℕ → Type 0
NextOrLast r q next = MatchOption next (Last r q) (Next r q)

-- copy q is the last of its group where the place has no `next`, else that is the next copy of its group; it is the first where `first` says so
pub record GroupPlace (r : Run) (q : ℕ) (place : Place) : Type 0 where
  pub next_told : NextOrLast r q place.next
  pub first_told : T place.first ↔ First r q

-- no next copy, and not the first: what a table is read as beyond its end
abbrev pub no_place : Place
no_place = record { next = None; first = false }

-- the table tells the place of every copy but 0
abbrev pub Grouped : Run → Groups → Type 0
Grouped r g = (q : ℕ) → 0 < q → q < r.c → GroupPlace r q (slice_index_or g.places q no_place)
