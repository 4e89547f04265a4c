use Rattle.model.proofs.order_law_stands.Goals as goal
use Rattle.model.proofs.Orders.{before_never, before_join, before_total, position_of, position_one, position_less, position_back, position_copy}

pub returns : goal.returns
returns c s r S C o = record {
  never = before_never s r o C.placed.tree;
  through = before_join s r o C.placed.tree;
  total = before_total s r o C.placed.tree;
  some_position = position_of s r o C.placed.tree;
  one_position = position_one s r o C.placed.tree;
  goes_as = λ i j q q' hi hj a b. (position_less s r o C.placed.tree i j q q' hi a b, position_back s r o C.placed.tree i j q q' hi hj a b);
  same_copy = position_copy s r o C.placed.tree;
}
