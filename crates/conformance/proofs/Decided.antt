-- What refuses a run file excludes what accepts it, and each other refusal.
use Rattle.std.proofs.Common.{◌≡◌, ℕ, List, get_or, refl, ap, arith}
use Rattle.model.specs.Specifications.{Spec}
use Rattle.model.specs.Runs.{Run, Conforms}
use Rattle.formats.specs.Runs.{no_run_edge}
use Rattle.formats.specs.Files.{DecidedOf}
use Rattle.formats.specs.RunFiles.{run_of, run_edges_of, run_format}
use Rattle.formats.specs.declared.faults.Fault.{Fault}
use Rattle.formats.proofs.Decided.{lowest_one, run_reading_law}
use Rattle.nesting.specs.Copies.{Follows, Filled, Misnested}
use Rattle.nesting.proofs.Decided.{copies_law}
use Rattle.records.specs.declared.kinds.RunEdge.{RunEdge}
use Rattle.conformance.specs.Deciding.{RunConforms, TurnedDown, not_opened, not_conforming, ConformanceLaw}
use Rattle.conformance.specs.Nonconforming.{Astray, AtHome, Repeats, Once, ShortOf, Stepped, Stray, AllDerived, Unlisted, Nonconforming, misnested, astray, repeated, short_of, stray, unlisted}
use Rattle.conformance.proofs.Halving.{stands_thus}

module _ (s : Spec) (bytes : List ℕ) where
  abbrev r : Run
  r = run_of bytes

  abbrev es : List RunEdge
  es = run_edges_of bytes

  opening : DecidedOf (run_format s.n s.b) bytes
  opening = run_reading_law s.n s.b bytes

  nested : {f : Fault} → Follows s r → Filled s r → ¬ (Misnested s r f)
  nested p q m = (copies_law s r).never_both p q _ m

  not_astray : {u : ℕ} → AtHome s r → ¬ (Astray s r u)
  not_astray {u} h a = a.1 (h u a.0)

  not_repeated : {u : ℕ} → Once r → ¬ (Repeats r u)
  not_repeated {u} h a =
      let w = a.1 in
      let e : w.0 ≡ u = h w.0 u (omega (arith, a.0, w.1)) a.0 w.2 w.3 in
      omega (arith, w.1)

  not_short : {i : ℕ} → Stepped s r → ¬ (ShortOf s r i)
  not_short {i} h a = let x = a.1 in x.3 (h i x.0 a.0 x.1 x.2)

  not_stray : {k : ℕ} → AllDerived s r es → ¬ (Stray s r es k)
  not_stray {k} h a = a.1 (h k a.0)

  one : {f g : Fault} → Nonconforming s bytes f → Nonconforming s bytes g → f ≡ g
  one (misnested m) (misnested m') = (copies_law s r).one_fault _ _ m m'
  one (misnested m) (astray fo' fi' l') = absurd (nested fo' fi' m)
  one (misnested m) (repeated fo' fi' ho' l') = absurd (nested fo' fi' m)
  one (misnested m) (short_of fo' fi' ho' on' l') = absurd (nested fo' fi' m)
  one (misnested m) (stray P' l') = absurd (nested P'.follows P'.children m)
  one (misnested m) (unlisted P' D' l') = absurd (nested P'.follows P'.children m)
  one (astray fo fi l) (misnested m') = absurd (nested fo fi m')
  one (astray fo fi l) (astray fo' fi' l') = ap (λ i. record { layer = 3; number = 13; place = i }) (lowest_one (Astray s r) l l')
  one (astray fo fi l) (repeated fo' fi' ho' l') = absurd (not_astray ho' l.0)
  one (astray fo fi l) (short_of fo' fi' ho' on' l') = absurd (not_astray ho' l.0)
  one (astray fo fi l) (stray P' l') = absurd (not_astray P'.at_home l.0)
  one (astray fo fi l) (unlisted P' D' l') = absurd (not_astray P'.at_home l.0)
  one (repeated fo fi ho l) (misnested m') = absurd (nested fo fi m')
  one (repeated fo fi ho l) (astray fo' fi' l') = absurd (not_astray ho l'.0)
  one (repeated fo fi ho l) (repeated fo' fi' ho' l') = ap (λ i. record { layer = 3; number = 14; place = i }) (lowest_one (Repeats r) l l')
  one (repeated fo fi ho l) (short_of fo' fi' ho' on' l') = absurd (not_repeated on' l.0)
  one (repeated fo fi ho l) (stray P' l') = absurd (not_repeated P'.only_step l.0)
  one (repeated fo fi ho l) (unlisted P' D' l') = absurd (not_repeated P'.only_step l.0)
  one (short_of fo fi ho on l) (misnested m') = absurd (nested fo fi m')
  one (short_of fo fi ho on l) (astray fo' fi' l') = absurd (not_astray ho l'.0)
  one (short_of fo fi ho on l) (repeated fo' fi' ho' l') = absurd (not_repeated on l'.0)
  one (short_of fo fi ho on l) (short_of fo' fi' ho' on' l') = ap (λ i. record { layer = 3; number = 15; place = i }) (lowest_one (ShortOf s r) l l')
  one (short_of fo fi ho on l) (stray P' l') = absurd (not_short P'.one_step l.0)
  one (short_of fo fi ho on l) (unlisted P' D' l') = absurd (not_short P'.one_step l.0)
  one (stray P l) (misnested m') = absurd (nested P.follows P.children m')
  one (stray P l) (astray fo' fi' l') = absurd (not_astray P.at_home l'.0)
  one (stray P l) (repeated fo' fi' ho' l') = absurd (not_repeated P.only_step l'.0)
  one (stray P l) (short_of fo' fi' ho' on' l') = absurd (not_short P.one_step l'.0)
  one (stray P l) (stray P' l') = ap (λ i. record { layer = 3; number = 16; place = i }) (lowest_one (Stray s r es) l l')
  one (stray P l) (unlisted P' D' l') = absurd (not_stray D' l.0)
  one (unlisted P D l) (misnested m') = absurd (nested P.follows P.children m')
  one (unlisted P D l) (astray fo' fi' l') = absurd (not_astray P.at_home l'.0)
  one (unlisted P D l) (repeated fo' fi' ho' l') = absurd (not_repeated P.only_step l'.0)
  one (unlisted P D l) (short_of fo' fi' ho' on' l') = absurd (not_short P.one_step l'.0)
  one (unlisted P D l) (stray P' l') = absurd (not_stray D l'.0)
  one (unlisted P D l) (unlisted P' D' l') = ap (λ i. record { layer = 3; number = 17; place = i }) (lowest_one (Unlisted s r) l l')

  both : {f : Fault} → Conforms s r → ¬ (Nonconforming s bytes f)
  both C (misnested m) = nested C.placed.follows C.placed.children m
  both C (astray fo fi l) = not_astray C.placed.at_home l.0
  both C (repeated fo fi ho l) = not_repeated C.placed.only_step l.0
  both C (short_of fo fi ho on l) = not_short C.placed.one_step l.0
  both C (stray {k} P l) =
      let e = get_or es k no_run_edge in
      l.0.1 ((C.exactly e.tail e.head).0 (stands_thus es e.tail e.head k (l.0.0, refl, refl)))
  both C (unlisted {u} P D l) = let w = l.0 in w.2 ((C.exactly u w.0).1 w.1)

  one_refusal : {f g : Fault} → TurnedDown s bytes f → TurnedDown s bytes g → f ≡ g
  one_refusal (not_opened a) (not_opened b) = opening.one_fault _ _ a b
  one_refusal (not_opened a) (not_conforming b c) = absurd (opening.never_both b _ a)
  one_refusal (not_conforming a b) (not_opened c) = absurd (opening.never_both a _ c)
  one_refusal (not_conforming a b) (not_conforming c d) = one b d

  never : {f : Fault} → RunConforms s bytes → ¬ (TurnedDown s bytes f)
  never C (not_opened a) = opening.never_both C.opened _ a
  never C (not_conforming a b) = both C.conforms b

pub conformance_law : ConformanceLaw
conformance_law s bytes = record { never_both = λ C f. never s bytes C; one_fault = λ f g. one_refusal s bytes }
