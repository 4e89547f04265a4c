-- The two-round import, a worked example: a loop around a fork, run for two rounds, the first with two copies of the fork.
--
-- The specification has five vertices in a row:
--     edges      0-1  1-2  2-3  3-4
--     vertex     0  1  2  3  4
--     home       0  1  2  1  0
--     block 0    the whole, from vertex 0 to vertex 4
--     block 1    a loop in block 0, from vertex 1 to vertex 3
--     block 2    a fork in block 1, its source vertex 1, its sink vertex 3
-- The run:
--     copy       0  1  2  3  4  5
--     parent     0  0  1  1  0  4
--     block      0  1  2  2  1  2
--     step       0  1  2  3  4  5  6  7  8
--     context    0  1  2  3  1  4  5  4  0
--     origin     0  1  2  2  3  1  2  3  4
--     edges      0-1  1-2  1-3  2-4  3-4  4-5  5-6  6-7  7-8
-- The edge 4-5 leads from the first round to the second; the others follow the edges of the specification.
use Rattle.std.specs.Prelude.{ℕ, ◌<◌, Bool, true, false, ◌&&◌, ◌||◌, List, [], ◌∷◌, ◌==◌, slice_index}
use Rattle.model.specs.Specifications.{Spec, Sealed}
use Rattle.model.specs.Runs.{Run, Conforms}
use Rattle.model.specs.Orders.{order1, order2, order3}
use Rattle.model.specs.Listings.{Listing}
use Rattle.model.specs.Labels.{Label, Labelled, Reaches, Answer}

-- the number at place x of a table, 0 beyond its end
abbrev pub table : List ℕ → ℕ → ℕ
table l x = slice_index l x

-- x and y stand at one place of two parallel lists: an edge from x to y is listed by its tail and its head
abbrev pub paired : List ℕ → List ℕ → ℕ → ℕ → Bool
paired [] heads x y = false
paired (t ∷ tails) [] x y = false
paired (t ∷ tails) (h ∷ heads) x y = (t == x && h == y) || paired tails heads x y

abbrev pub import_spec : Spec
import_spec = record {
  n = 5;
  b = 3;
  edge = paired (0 ∷ 1 ∷ 2 ∷ 3 ∷ []) (1 ∷ 2 ∷ 3 ∷ 4 ∷ []);
  home = table (0 ∷ 1 ∷ 2 ∷ 1 ∷ 0 ∷ []);
  tool = λ x. 0;
  above = table (0 ∷ 0 ∷ 1 ∷ []);
  kind = table (0 ∷ 2 ∷ 1 ∷ []);
  source = table (0 ∷ 1 ∷ 1 ∷ []);
  sink = table (4 ∷ 3 ∷ 3 ∷ []);
}

abbrev pub import_run : Run
import_run = record {
  c = 6;
  v = 9;
  parent = table (0 ∷ 0 ∷ 1 ∷ 1 ∷ 0 ∷ 4 ∷ []);
  block = table (0 ∷ 1 ∷ 2 ∷ 2 ∷ 1 ∷ 2 ∷ []);
  context = table (0 ∷ 1 ∷ 2 ∷ 3 ∷ 1 ∷ 4 ∷ 5 ∷ 4 ∷ 0 ∷ []);
  origin = table (0 ∷ 1 ∷ 2 ∷ 2 ∷ 3 ∷ 1 ∷ 2 ∷ 3 ∷ 4 ∷ []);
  listed = paired (0 ∷ 1 ∷ 1 ∷ 2 ∷ 3 ∷ 4 ∷ 5 ∷ 6 ∷ 7 ∷ []) (1 ∷ 2 ∷ 3 ∷ 4 ∷ 4 ∷ 5 ∷ 6 ∷ 7 ∷ 8 ∷ []);
}

-- the labels of steps 0 to 8: 000, 113, 234, 325, 113, 441, 552, 441, 000, each with its origin
abbrev pub import_label : ℕ → Label
import_label u = record {
  q1 = table (0 ∷ 1 ∷ 2 ∷ 3 ∷ 1 ∷ 4 ∷ 5 ∷ 4 ∷ 0 ∷ []) u;
  q2 = table (0 ∷ 1 ∷ 3 ∷ 2 ∷ 1 ∷ 4 ∷ 5 ∷ 4 ∷ 0 ∷ []) u;
  q3 = table (0 ∷ 3 ∷ 4 ∷ 5 ∷ 3 ∷ 1 ∷ 2 ∷ 1 ∷ 0 ∷ []) u;
  vertex = import_run.origin u;
}

-- the question rule, asked of the labels of steps u and w: yes or no, comparisons made, skeleton questions put
abbrev pub Asked : ℕ → ℕ → Bool → ℕ → ℕ → Type 0
Asked u w y c q = Answer (import_label u) (import_label w) (Reaches import_spec (import_label u) (import_label w)) y c q

-- the specification is sealed, the run conforms, and its orders, its labels and eight answers are as written here
pub record ImportLaw : Type 0 where
  pub is_sealed : Sealed import_spec
  pub conforms : Conforms import_spec import_run
  pub written_1 : Listing import_spec import_run order1 (0 ∷ 1 ∷ 2 ∷ 3 ∷ 4 ∷ 5 ∷ [])
  pub written_2 : Listing import_spec import_run order2 (0 ∷ 1 ∷ 3 ∷ 2 ∷ 4 ∷ 5 ∷ [])
  pub written_3 : Listing import_spec import_run order3 (0 ∷ 4 ∷ 5 ∷ 1 ∷ 2 ∷ 3 ∷ [])
  pub labels : (u : ℕ) → u < 9 → Labelled import_spec import_run u (import_label u)
  pub asked_2_3 : Asked 2 3 false 2 0
  pub asked_2_6 : Asked 2 6 true 3 0
  pub asked_6_2 : Asked 6 2 false 3 0
  pub asked_1_4 : Asked 1 4 true 1 1
  pub asked_4_1 : Asked 4 1 false 1 1
  pub asked_2_4 : Asked 2 4 true 3 1
  pub asked_4_3 : Asked 4 3 false 3 1
  pub asked_5_5 : Asked 5 5 true 1 1
