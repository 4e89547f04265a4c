-- A row that holds the domain of a block of the lent tables.
use Rattle.std.proofs.Common.{◌≡◌, ℕ, ◌<◌, ◌↔◌, ap, arith}
use Rattle.std.proofs.lemmas.List.{get_or_past}
use Rattle.std.proofs.lemmas.Bool.{cases_lt}
use Rattle.model.specs.Specifications.{Domain}
use Rattle.model.proofs.Cases.{cases}
use Rattle.model.proofs.Chains.{chain_le}
use Rattle.formats.specs.Specifications.{no_vertex}
use Rattle.records.specs.declared.kinds.Vertex.{Vertex}
use Rattle.graphs.specs.Rows.{Holds}
use Rattle.graphs.specs.declared.row.Row.{Row}
use Rattle.rules.specs.Parts.{parts_spec, HoldsDomain}
use Rattle.rules.specs.declared.parts.Parts.{Parts}
use Rattle.rules.proofs.Ranges.{falls_of}

-- past the last vertex a home is 0, and parents of 0 lead to no other block
pub domain_low : (p : Parts) (k : ℕ) → 0 < k → (x : ℕ) → Domain (parts_spec p) k x → x < (parts_spec p).n
domain_low p k z x d = cases (cases_lt x (parts_spec p).n) (λ l. l) (λ l.
    let e : (parts_spec p).home x ≡ 0 = ap (λ (v : Vertex). v.home) (get_or_past p.vertices.now x no_vertex l) in
    absurd (omega (arith, e, chain_le (falls_of p.nests.now p.rooted p.nested) d)))

-- for a block but 0 the row holds just the vertices of its domain
pub in_row : (p : Parts) (k : ℕ) (row : Row) → 0 < k → HoldsDomain (parts_spec p) k row → (x : ℕ) → Holds row x ↔ Domain (parts_spec p) k x
in_row p k row z h x = ((λ a. ((h x).0 a).1), λ d. (h x).1 (domain_low p k z x d, d))
