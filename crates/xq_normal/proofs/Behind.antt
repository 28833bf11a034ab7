-- Bodies one behind the other, and a number by which bodies shrink.
use Rattle.std.proofs.Common.{◌≡◌, ℕ, suc, ◌+◌, ◌==◌, Bool, true, false, cond, ◌||◌, List, [], ◌∷◌, ◌++◌, length, map, refl, sym, ◌∙◌, ap, arith}
use Rattle.std.proofs.lemmas.Bool.{true≢false, ne_eqb}
use Rattle.gcx_model.specs.Core.{CondTree, ItemTree, Write, Copy, For, If, SignOff, BodyTree, Nil, Then}
use Rattle.gcx_model.specs.declared.item.Item.{Item}
use Rattle.gcx_model.specs.ItemView.{item_tree, body_of}
use Rattle.gcx_model.specs.Normal.{join, one, half, has_loop, spread, branch}
use Rattle.gcx_base.specs.declared.steps.Step.{Step}
use Rattle.xq_normal.specs.Raw.{flush, spread_on, turn_of}
use Rattle.xq_normal.proofs.Spreading.{spread_is}

pub join-nil : (a : BodyTree) → join a Nil ≡ a
join-nil Nil = refl
join-nil (Then i a) = ap (λ b. Then i b) (join-nil a)

pub join_assoc : (a b c : BodyTree) → join (join a b) c ≡ join a (join b c)
join_assoc Nil b c = refl
join_assoc (Then i a) b c = ap (λ d. Then i d) (join_assoc a b c)

pub body_of-append : (is js : List ItemTree) → body_of (is ++ js) ≡ join (body_of is) (body_of js)
body_of-append [] js = refl
body_of-append (i ∷ is) js = ap (λ d. Then i d) (body_of-append is js)

-- the items as a body
abbrev pub body_in : List Item → BodyTree
body_in items = body_of (map item_tree items)

-- an item more behind those so far
pub join_more : (so_far more now rest : BodyTree) → now ≡ join so_far more → join now rest ≡ join so_far (join more rest)
join_more so_far more now rest e = ap (λ b. join b rest) e ∙ join_assoc so_far more rest

-- one behind the other
pub after : (old a b x y : BodyTree) → a ≡ join old x → b ≡ join a y → b ≡ join old (join x y)
after old a b x y e f = f ∙ (ap (λ z. join z y) e ∙ join_assoc old x y)

abbrev mutual
  pub weight : ItemTree → ℕ
  weight (Write s) = 0
  weight (Copy x) = 0
  weight (For x y s d) = suc (suc (weights d))
  weight (If c a b) = suc (weights a + weights b)
  weight (SignOff o) = 0

  pub weights : BodyTree → ℕ
  weights Nil = 0
  weights (Then i d) = suc (weight i + weights d)

-- ---- Runs

pub none_flushed : (c : CondTree) (first : Bool) (items : List Item) (empty : Bool) → empty ≡ (length items == 0) → empty ≡ true → flush c first (body_in items) Nil ≡ Nil
none_flushed c first [] empty e h = refl
none_flushed c first (x ∷ xs) empty e h = absurd (true≢false (sym h ∙ (e ∙ ne_eqb _ _ (omega arith))))

pub some_flushed : (c : CondTree) (first : Bool) (items : List Item) (empty : Bool) → empty ≡ (length items == 0) → empty ≡ false → flush c first (body_in items) Nil ≡ one (half c first (body_in items))
some_flushed c first [] empty e h = absurd (true≢false (sym e ∙ h))
some_flushed c first (x ∷ xs) empty e h = refl

pub flush-join : (c : CondTree) (first : Bool) (run d : BodyTree) → flush c first run d ≡ join (flush c first run Nil) d
flush-join c first Nil d = refl
flush-join c first (Then i r) d = refl

-- a loop stays, behind the If of the run before it
pub loop_spread : (c : CondTree) (first : Bool) (out flushed now run run' : BodyTree) (x y : ℕ) (s : Step) (e turn : BodyTree) → run' ≡ Nil → flushed ≡ join out (flush c first run Nil) → turn ≡ turn_of c first e
    → now ≡ join flushed (one (For x y s turn)) → (rest : BodyTree) → join now (spread_on c first run' rest) ≡ join out (spread_on c first run (Then (For x y s e) rest))
loop_spread c first out flushed now run run' x y s e turn none f t p rest =
    ap (λ r. join now (spread_on c first r rest)) none
    ∙ (join_more flushed (one (For x y s turn)) now (spread_on c first Nil rest) p
    ∙ (join_more out (flush c first run Nil) flushed (Then (For x y s turn) (spread_on c first Nil rest)) f
    ∙ ap (λ d. join out d) (sym (flush-join c first run (Then (For x y s turn) (spread_on c first Nil rest))) ∙ ap (λ u. flush c first run (Then (For x y s u) (spread_on c first Nil rest))) t)))

pub branch_put : (c : CondTree) (out first now a b : BodyTree) (t : Bool) → t ≡ (has_loop a || has_loop b) → t ≡ true → first ≡ join out (spread_on c true Nil a) → now ≡ join first (spread_on c false Nil b) → now ≡ join out (branch c a b)
branch_put c out first now a b t e h p q =
    after out first now (spread c true a) (spread c false b) (p ∙ ap (λ d. join out d) (spread_is c true a)) (q ∙ ap (λ d. join first d) (spread_is c false b))
    ∙ ap (λ u. join out (cond u (join (spread c true a) (spread c false b)) (one (If c a b)))) (sym h ∙ e)

-- a constructor
pub elem_put : (s t : List ℕ) (out first second now inner : BodyTree) → first ≡ join out (one (Write s)) → second ≡ join first inner → now ≡ join second (one (Write t)) → now ≡ join out (Then (Write s) (join inner (one (Write t))))
elem_put s t out first second now inner p q r = after out first now (one (Write s)) (join inner (one (Write t))) p (after first second now inner (one (Write t)) q r)
