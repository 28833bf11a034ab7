-- How often the move of an If copies its condition.
use Rattle.std.proofs.Common.{◌≡◌, ℕ, ◌+◌, ◌*◌, Bool, true, false, not, cond, ◌&&◌, ◌||◌, ◌<◌, List, length, get_or, take, refl, sym, ◌∙◌, ap, arith}
use Rattle.std.proofs.Math.Nat.{add-mul}
use Rattle.std.proofs.lemmas.Bool.{true≢false}
use Rattle.gcx_model.specs.Core.{CondTree, ItemTree, Write, Copy, For, If, SignOff, BodyTree, Nil, Then}
use Rattle.gcx_model.specs.Normal.{join, one, has_loop, half, spread, branch}
use Rattle.xq_normal.specs.Raw.{flush, spread_on, turn_of, moved, moved_item}
use Rattle.xq_normal.proofs.Spreading.{spread_is}
use Rattle.gcx_base.specs.declared.steps.Step.{Step}
use Rattle.gcx_model.specs.declared.item.Item.{Item}
use Rattle.gcx_model.specs.ItemView.{item_tree}
use Rattle.xq_normal.proofs.Behind.{body_in}
use Rattle.xq_normal.proofs.Moved.{moved_more}
use Rattle.xq_normal.specs.Shapes.{ShapeTree, NoItems, OneRun, HasLoops, once, beside, copies, turn_copies, is_looped, item_shape, shape_of, branch_copies, branch_shape}
use Rattle.xq_normal.specs.Sums.{item_total, total}

-- ---- Shapes

pub beside-empty : (s : ShapeTree) → beside s NoItems ≡ s
beside-empty NoItems = refl
beside-empty OneRun = refl
beside-empty (HasLoops i f b) = refl

abbrev with_count : Bool → Bool → ℕ → ShapeTree
with_count f b n = HasLoops n f b

no_meeting : (g : Bool) → once (g && not true) ≡ 0
no_meeting true = refl
no_meeting false = refl

run_twice : (i x : ℕ) → i + x + 0 ≡ i + x
run_twice i x = omega arith

run_between : (i j x y : ℕ) → y ≡ 0 → i + x + (j + y) ≡ i + (j + x)
run_between i j x y e = omega arith

run_behind : (i j x y : ℕ) → i + (j + x) + y ≡ i + (j + y + x)
run_behind i j x y = omega arith

three : (i j k x y : ℕ) → i + (j + x) + (k + y) ≡ i + (j + (k + y) + x)
three i j k x y = omega arith

pub beside_assoc : (a b c : ShapeTree) → beside (beside a b) c ≡ beside a (beside b c)
beside_assoc NoItems b c = refl
beside_assoc OneRun NoItems c = refl
beside_assoc OneRun OneRun NoItems = refl
beside_assoc OneRun OneRun OneRun = refl
beside_assoc OneRun OneRun (HasLoops i f b) = refl
beside_assoc OneRun (HasLoops i f b) NoItems = refl
beside_assoc OneRun (HasLoops i f b) OneRun = refl
beside_assoc OneRun (HasLoops i f b) (HasLoops j g c) = refl
beside_assoc (HasLoops i f b) NoItems c = refl
beside_assoc (HasLoops i f b) OneRun NoItems = refl
beside_assoc (HasLoops i f b) OneRun OneRun = ap (with_count f true) (run_twice i (once (not b)))
beside_assoc (HasLoops i f b) OneRun (HasLoops j g c) = ap (with_count f c) (run_between i j (once (not b)) (once (g && not true)) (no_meeting g))
beside_assoc (HasLoops i f b) (HasLoops j g c) NoItems = refl
beside_assoc (HasLoops i f b) (HasLoops j g c) OneRun = ap (with_count f true) (run_behind i j (once (g && not b)) (once (not c)))
beside_assoc (HasLoops i f b) (HasLoops j g c) (HasLoops k h d) = ap (with_count f d) (three i j k (once (g && not b)) (once (h && not c)))

pub shape_of-join : (a b : BodyTree) → shape_of (join a b) ≡ beside (shape_of a) (shape_of b)
shape_of-join Nil b = refl
shape_of-join (Then i a) b = ap (λ s. beside (item_shape i) s) (shape_of-join a b) ∙ sym (beside_assoc (item_shape i) (shape_of a) (shape_of b))

looped_run : (s : ShapeTree) → is_looped (beside OneRun s) ≡ is_looped s
looped_run NoItems = refl
looped_run OneRun = refl
looped_run (HasLoops i f b) = refl

looped_loop : (n : ℕ) (s : ShapeTree) → is_looped (beside (HasLoops n false false) s) ≡ true
looped_loop n NoItems = refl
looped_loop n OneRun = refl
looped_loop n (HasLoops i f b) = refl

pub looped : (d : BodyTree) → has_loop d ≡ is_looped (shape_of d)
looped Nil = refl
looped (Then (Write s) d) = looped d ∙ sym (looped_run (shape_of d))
looped (Then (Copy x) d) = looped d ∙ sym (looped_run (shape_of d))
looped (Then (For x y s e) d) = sym (looped_loop (turn_copies (shape_of e)) (shape_of d))
looped (Then (If c a b) d) = looped d ∙ sym (looped_run (shape_of d))
looped (Then (SignOff o) d) = looped d ∙ sym (looped_run (shape_of d))

-- a run of items that aren't loops
abbrev run_shape : BodyTree → ShapeTree
run_shape Nil = NoItems
run_shape (Then i r) = OneRun

half_shape : (c : CondTree) (first : Bool) (d : BodyTree) → item_shape (half c first d) ≡ OneRun
half_shape c true d = refl
half_shape c false d = refl

flush_shape : (c : CondTree) (first : Bool) (run d : BodyTree) → shape_of (flush c first run d) ≡ beside (run_shape run) (shape_of d)
flush_shape c first Nil d = refl
flush_shape c first (Then i r) d = ap (λ s. beside s (shape_of d)) (half_shape c first (Then i r))

-- an item more in the run
run_more : (run : BodyTree) (i : ItemTree) (s : ShapeTree) → beside (run_shape (join run (one i))) s ≡ beside (run_shape run) (beside OneRun s)
run_more Nil i s = refl
run_more (Then j r) i s = beside_assoc OneRun OneRun s

flat_turn : (s : ShapeTree) → is_looped s ≡ false → turn_copies s ≡ 1
flat_turn NoItems h = refl
flat_turn OneRun h = refl
flat_turn (HasLoops i f b) h = absurd (true_false h)
  where
    true_false : true ≡ false → ⊥
    true_false e = true≢false e

turn_count : (c : CondTree) (first : Bool) (e : BodyTree) (t : Bool) → has_loop e ≡ t → shape_of (spread_on c first Nil e) ≡ shape_of e
    → turn_copies (shape_of (cond t (spread_on c first Nil e) (one (half c first e)))) ≡ turn_copies (shape_of e)
turn_count c first e true h s = ap turn_copies s
turn_count c first e false h s = ap (λ u. turn_copies (beside u NoItems)) (half_shape c first e) ∙ sym (flat_turn (shape_of e) (sym (looped e) ∙ h))

pub spread_shape : (c : CondTree) (first : Bool) (run d : BodyTree) → shape_of (spread_on c first run d) ≡ beside (run_shape run) (shape_of d)
spread_shape c first run Nil = flush_shape c first run Nil
spread_shape c first run (Then (Write s) d) = spread_shape c first (join run (one (Write s))) d ∙ run_more run (Write s) (shape_of d)
spread_shape c first run (Then (Copy x) d) = spread_shape c first (join run (one (Copy x))) d ∙ run_more run (Copy x) (shape_of d)
spread_shape c first run (Then (If k a b) d) = spread_shape c first (join run (one (If k a b))) d ∙ run_more run (If k a b) (shape_of d)
spread_shape c first run (Then (SignOff o) d) = spread_shape c first (join run (one (SignOff o))) d ∙ run_more run (SignOff o) (shape_of d)
spread_shape c first run (Then (For x y s e) d) =
    flush_shape c first run (Then (For x y s (turn_of c first e)) (spread_on c first Nil d))
    ∙ ap (λ t. beside (run_shape run) t)
    (ap (λ t. beside (HasLoops (turn_copies (shape_of (turn_of c first e))) false false) t) (spread_shape c first Nil d)
    ∙ ap (λ n. beside (HasLoops n false false) (shape_of d)) (turn_count c first e (has_loop e) refl (spread_shape c first Nil e)))

pub branch_is : (c : CondTree) (a b : BodyTree) → shape_of (branch c a b) ≡ branch_shape (shape_of a) (shape_of b)
branch_is c a b = go (has_loop a || has_loop b) ∙ ap (λ t. cond t (beside (shape_of a) (shape_of b)) OneRun) (ap (λ t. t || has_loop b) (looped a) ∙ ap (λ t. is_looped (shape_of a) || t) (looped b))
  where
    go : (t : Bool) → shape_of (cond t (join (spread c true a) (spread c false b)) (one (If c a b))) ≡ cond t (beside (shape_of a) (shape_of b)) OneRun
    go true = shape_of-join (spread c true a) (spread c false b) ∙ (ap (λ s. beside s (shape_of (spread c false b))) (ap shape_of (sym (spread_is c true a)) ∙ spread_shape c true Nil a) ∙ ap (λ s. beside (shape_of a) s) (ap shape_of (sym (spread_is c false b)) ∙ spread_shape c false Nil b))
    go false = refl

-- ---- Sums

module _ (number : CondTree → ℕ) where
  pub total-join : (a b : BodyTree) → total number (join a b) ≡ total number a + total number b
  total-join Nil b = omega arith
  total-join (Then i a) b = let h = total-join a b in omega arith

  half_total : (c : CondTree) (first : Bool) (d : BodyTree) → item_total number (half c first d) ≡ number c + total number d
  half_total c true d = omega arith
  half_total c false d = omega arith

  flush_total : (c : CondTree) (first : Bool) (run d : BodyTree) → total number (flush c first run d) ≡ copies (run_shape run) * number c + (total number run + total number d)
  flush_total c first Nil d = omega arith
  flush_total c first (Then i r) d = let h = half_total c first (Then i r) in omega arith

  one_total : (run : BodyTree) (i : ItemTree) → total number (join run (one i)) ≡ total number run + item_total number i
  one_total run i = let h = total-join run (one i) in omega arith

  abbrev Moves : CondTree → Bool → BodyTree → BodyTree → Type 0
  Moves c first run d = total number (spread_on c first run d) ≡ copies (beside (run_shape run) (shape_of d)) * number c + (total number run + total number d)

  item_moves : (c : CondTree) (first : Bool) (run d : BodyTree) (i : ItemTree) (t : ℕ) → t ≡ copies (beside (run_shape (join run (one i))) (shape_of d)) * number c + (total number (join run (one i)) + total number d)
      → t ≡ copies (beside (run_shape run) (beside OneRun (shape_of d))) * number c + (total number run + (item_total number i + total number d))
  item_moves c first run d i t e =
      let o = one_total run i in
      let m = ap (λ s. copies s * number c) (run_more run i (shape_of d)) in
      omega arith

  -- a loop behind a run, and what comes then
  loop_copies : (run : BodyTree) (n : ℕ) (s : ShapeTree) → copies (beside (run_shape run) (beside (HasLoops n false false) s)) ≡ copies (run_shape run) + (n + copies s)
  loop_copies Nil n NoItems = omega arith
  loop_copies Nil n OneRun = omega arith
  loop_copies Nil n (HasLoops i f b) = meet f
    where
      meet : (f : Bool) → n + (i + once (f && not false)) + once false ≡ 0 + (n + (i + once f))
      meet true = omega arith
      meet false = omega arith
  loop_copies (Then j r) n NoItems = omega arith
  loop_copies (Then j r) n OneRun = omega arith
  loop_copies (Then j r) n (HasLoops i f b) = meet f
    where
      meet : (f : Bool) → n + (i + once (f && not false)) + once true ≡ 1 + (n + (i + once f))
      meet true = omega arith
      meet false = omega arith

  turn_total : (c : CondTree) (first : Bool) (e : BodyTree) (t : Bool) → has_loop e ≡ t → Moves c first Nil e
      → total number (cond t (spread_on c first Nil e) (one (half c first e))) ≡ turn_copies (shape_of e) * number c + total number e
  turn_total c first e true h m =
      let s : copies (shape_of e) * number c ≡ turn_copies (shape_of e) * number c = ap (λ n. n * number c) (looped_copies (shape_of e) (sym (looped e) ∙ h)) in
      omega arith
    where
      looped_copies : (s : ShapeTree) → is_looped s ≡ true → copies s ≡ turn_copies s
      looped_copies NoItems k = absurd (true≢false (sym k))
      looped_copies OneRun k = refl
      looped_copies (HasLoops i f b) k = refl
  turn_total c first e false h m =
      let s : turn_copies (shape_of e) * number c ≡ 1 * number c = ap (λ n. n * number c) (flat_turn (shape_of e) (sym (looped e) ∙ h)) in
      let k = half_total c first e in
      omega arith

  loop_sum : (w r n q tr te td turn rest flushed : ℕ) → flushed ≡ r * w + (tr + (turn + rest)) → turn ≡ n * w + te → rest ≡ q * w + (0 + td) → flushed ≡ (r + (n + q)) * w + (tr + (te + td))
  loop_sum w r n q tr te td turn rest flushed e f g =
      let a = add-mul r (n + q) w in
      let b = add-mul n q w in
      omega arith

  pub spread_total : (c : CondTree) (first : Bool) (run d : BodyTree) → Moves c first run d
  spread_total c first run Nil =
      flush_total c first run Nil ∙ ap (λ s. copies s * number c + (total number run + 0)) (sym (beside-empty (run_shape run)))
  spread_total c first run (Then (Write s) d) = item_moves c first run d (Write s) _ (spread_total c first (join run (one (Write s))) d)
  spread_total c first run (Then (Copy x) d) = item_moves c first run d (Copy x) _ (spread_total c first (join run (one (Copy x))) d)
  spread_total c first run (Then (If k a b) d) = item_moves c first run d (If k a b) _ (spread_total c first (join run (one (If k a b))) d)
  spread_total c first run (Then (SignOff o) d) = item_moves c first run d (SignOff o) _ (spread_total c first (join run (one (SignOff o))) d)
  spread_total c first run (Then (For x y s e) d) =
      loop_sum (number c) (copies (run_shape run)) (turn_copies (shape_of e)) (copies (shape_of d)) (total number run) (total number e) (total number d)
      (total number (turn_of c first e)) (total number (spread_on c first Nil d)) (total number (spread_on c first run (Then (For x y s e) d)))
      (flush_total c first run (Then (For x y s (turn_of c first e)) (spread_on c first Nil d)))
      (turn_total c first e (has_loop e) refl (spread_total c first Nil e))
      (spread_total c first Nil d)
      ∙ ap (λ n. n * number c + (total number run + (total number e + total number d))) (sym (loop_copies run (turn_copies (shape_of e)) (shape_of d)))

  pub branch_total : (c : CondTree) (a b : BodyTree) → total number (branch c a b) ≡ branch_copies (shape_of a) (shape_of b) * number c + (total number a + total number b)
  branch_total c a b =
      go (has_loop a || has_loop b)
      ∙ ap (λ t. cond t (copies (shape_of a) + copies (shape_of b)) 1 * number c + (total number a + total number b)) (ap (λ t. t || has_loop b) (looped a) ∙ ap (λ t. is_looped (shape_of a) || t) (looped b))
    where
      go : (t : Bool) → total number (cond t (join (spread c true a) (spread c false b)) (one (If c a b))) ≡ cond t (copies (shape_of a) + copies (shape_of b)) 1 * number c + (total number a + total number b)
      go true =
          let j = total-join (spread c true a) (spread c false b) in
          let x = ap (total number) (sym (spread_is c true a)) ∙ spread_total c true Nil a in
          let y = ap (total number) (sym (spread_is c false b)) ∙ spread_total c false Nil b in
          let m = add-mul (copies (shape_of a)) (copies (shape_of b)) (number c) in
          omega arith
      go false = omega arith

  -- what is added for a loop, an If and one item more
  pub loop_sums : (x y : ℕ) (s : Step) (d : BodyTree) → total number (moved d) ≡ total number (moved_item (For x y s d))
  loop_sums x y s d = omega arith

  pub branch_sums : (c : CondTree) (a b : BodyTree) (n : ℕ) → n + total number (moved a) + total number (moved b) + branch_copies (shape_of (moved a)) (shape_of (moved b)) * number c ≡ n + total number (moved_item (If c a b))
  branch_sums c a b n = let h = branch_total c (moved a) (moved b) in omega arith

  pub more_sums : (xs : List Item) (k : ℕ) (x : Item) (n : ℕ) → k < length xs → x ≡ get_or xs k x
      → n + total number (moved (body_in (take k xs))) + total number (moved_item (item_tree x)) ≡ n + total number (moved (body_in (take (k + 1) xs)))
  more_sums xs k x n h e =
      let m = ap (total number) (moved_more xs k x h e) in
      let j = total-join (moved (body_in (take k xs))) (moved_item (item_tree x)) in
      omega arith

pub more_shape : (xs : List Item) (k : ℕ) (x : Item) → k < length xs → x ≡ get_or xs k x → beside (shape_of (moved (body_in (take k xs)))) (shape_of (moved_item (item_tree x))) ≡ shape_of (moved (body_in (take (k + 1) xs)))
more_shape xs k x h e = sym (ap shape_of (moved_more xs k x h e) ∙ shape_of-join (moved (body_in (take k xs))) (moved_item (item_tree x)))
