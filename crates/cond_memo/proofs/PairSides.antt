-- One side of a pair of paths: as it turns to a node, and as values are taken of it.
use Rattle.std.proofs.Common.{◌≡◌, ◌↔◌, ℕ, Bool, true, false, List, [], ◌∷◌, Option, Some, None, refl, sym, ◌∙◌, ap, subst}
use Rattle.std.proofs.lemmas.Bool.{false≢true}
use Rattle.gcx_base.specs.declared.ids.Serial.{Serial}
use Rattle.gcx_base.specs.declared.rel.Rel.{Rel}
use Rattle.gcx_model.specs.Paths.{matches}
use Rattle.gcx_model.specs.Tree.{Node, serial_of}
use Rattle.tree_laws.proofs.Fed.{grown_from}
use Rattle.tree_laws.proofs.Matches.{Numbered-same}
use Rattle.node_store.specs.declared.store.Place.{Place}
use Rattle.buf_tree.specs.View.{View}
use Rattle.cond_eval.specs.Reads.{IsValue}
use Rattle.cond_eval.proofs.Rows.{grown_tree}
use Rattle.value_pairs.specs.Pairs.{SomePair}
use Rattle.value_pairs.specs.Taken.{TookBoth, TookBy}
use Rattle.value_pairs.specs.declared.compared.Compared.{Compared}
use Rattle.value_pairs.specs.declared.hand.Hand.{Hand}
use Rattle.value_pairs.specs.declared.hand.Hand.TheVariants as hand
use Rattle.cond_memo.specs.PairCalls.{SomePairBy, TakesSide, TurnsSide}
use Rattle.cond_memo.specs.Taking.{FindsUntaken, TakesUntaken, TookUpto}
use Rattle.cond_memo.specs.declared.taken.Taken.{Taken}
use Rattle.cond_memo.proofs.Takings.{TakesOn, takes_on, takes_start, takes_this}
use Rattle.cond_memo.proofs.Untaken.{took_more, took_none}

-- ---- it turns

-- it was about the node before
pub same_node : (k : Taken) (of : Serial) → k.of ≡ Some of → k ≡ record k { of = Some of; below = k.below; waiting = k.waiting }
same_node k of e = ap (λ (o : Option Serial). record k { of = o }) e

pub other_node : (k l : Taken) (of : Serial) → l ≡ record k { of = Some of; below = 0; waiting = None } → l ≡ record k { of = Some of; below = l.below; waiting = l.waiting }
other_node k l of e =
    e ∙ (ap (λ (b : ℕ). record k { of = Some of; below = b; waiting = None }) (sym (ap (λ (x : Taken). x.below) e))
    ∙ ap (λ (w : Option Serial). record k { of = Some of; below = l.below; waiting = w }) (sym (ap (λ (x : Taken). x.waiting) e)))

module _ (h : Hand) (k : Taken) (c : Compared) (of : Serial) where
  pub turn_stays : k.of ≡ Some of → TurnsSide h k k c c of
  turn_stays e P n rel vs ws lo i f t b =
      let told = t.told of e in
      let same : told.0 ≡ n = Numbered-same 0 P.nodes (grown_from P lo).numbered told.0 n told.1 i (told.2 ∙ sym f) in
      (vs, b, subst (λ (x : Node). TookUpto P (matches P (serial_of x) k.steps) k.waiting k.below vs) same told.3)

  pub turn_new : (l : Taken) (d : Compared) → l ≡ record k { of = Some of; below = 0; waiting = None } → ((rel : Rel) (vs ws : List (List ℕ)) → TookBy h c rel vs ws → TookBy h d rel [] ws) → TurnsSide h k l c d of
  turn_new l d e clear P n rel vs ws lo i f t b =
      ([], clear rel vs ws b, subst (λ (x : Taken). TookUpto P (matches P (serial_of n) k.steps) x.waiting x.below []) (sym e) (took_none P (matches P (serial_of n) k.steps)))

-- ---- values are taken

-- what was taken of the side, where the relation holds of no pair
abbrev pub Unmet : Hand → Compared → Rel → (others : List (List ℕ)) → (these : List (List ℕ)) → Type 0
Unmet h c rel ws vs = TookBy h c rel vs ws × (SomePairBy h rel vs ws → ⊥)

-- what the comparison tells
abbrev pub TellsPairs : Compared → Bool → Type 0
TellsPairs c b = (rel : Rel) (ls rs : List (List ℕ)) → TookBoth c rel ls rs → b ≡ true ↔ SomePair rel ls rs

-- that a value is taken
abbrev pub TakesValue : Hand → (c d : Compared) → List ℕ → Type 0
TakesValue h c d w = (rel : Rel) (vs ws : List (List ℕ)) → TookBy h c rel vs ws → TookBy h d rel (w ∷ vs) ws

pub tells_by : (h : Hand) (c : Compared) (b : Bool) → TellsPairs c b → (rel : Rel) (vs ws : List (List ℕ)) → TookBy h c rel vs ws → b ≡ true ↔ SomePairBy h rel vs ws
tells_by hand.Left c b f rel vs ws t = f rel vs ws t
tells_by hand.Right c b f rel vs ws t = f rel ws vs t

-- so it is for each relation and each list of other values
abbrev pub SideGoes : View → (was now : Taken) → (p : ℕ) → Hand → (c d : Compared) → (next : Option Place) → Type 0
SideGoes v was now p h c d next = (rel : Rel) (ws : List (List ℕ)) → TakesOn v was now p (Unmet h c rel ws) (Unmet h d rel ws) next

pub side_starts : (v : View) (k l : Taken) (p : ℕ) (h : Hand) (c : Compared) (r : Option Place) → FindsUntaken v k l p r → SideGoes v k l p h c c r
side_starts v k l p h c r finds rel ws = takes_start v k l p (Unmet h c rel ws) r finds

module _ (v : View) (was now : Taken) (p : ℕ) (h : Hand) (c d e : Compared) (q : Place) (goes : SideGoes v was now p h c d (Some q)) (w : List ℕ) (is : IsValue v.rows q.0 w) (takes : TakesValue h d e w) where
  -- the relation holds with the value
  pub side_meets : TellsPairs e true → TakesSide v was now p h c e true
  side_meets met P keep n rel vs ws a t b unmet =
      let r = takes_this v was now p (Unmet h c rel ws) (Unmet h d rel ws) q (goes rel ws) w is P keep n vs a t (b, unmet) in
      let m = r.3 in
      let took = takes rel r.0 ws r.1.0 in (
        w ∷ r.0,
        took,
        subst (λ (u : List ℕ). TookUpto P (matches P (serial_of n) was.steps) now.waiting now.below (u ∷ r.0)) m.3
            (took_more P a.at.rows_of.grown (grown_tree v.rows P keep a.at.rows_of) n was.steps r.0 m.0 m.1 m.2 now.waiting now.below r.2),
        (tells_by h e true met rel (w ∷ r.0) ws took).0 refl,
      )

  -- or it doesn't
  pub side_goes : TellsPairs e false → now.steps ≡ was.steps → (later : Taken) (r : Option Place) → TakesUntaken v now later p q r → SideGoes v was later p h c e r
  side_goes unmet steps later r next rel ws =
      takes_on v was now p (Unmet h c rel ws) (Unmet h d rel ws) q (goes rel ws) w is steps later r next (Unmet h e rel ws)
      (λ vs u. let took = takes rel vs ws u.0 in (took, λ pair. false≢true ((tells_by h e false unmet rel (w ∷ vs) ws took).1 pair)))

-- all were taken
pub side_ends : (v : View) (was now : Taken) (p : ℕ) (h : Hand) (c d : Compared) → SideGoes v was now p h c d None → TakesSide v was now p h c d false
side_ends v was now p h c d goes P keep n rel vs ws a t b unmet =
    let r = goes rel ws P keep n vs a t (b, unmet) in
    (r.0, r.1.0, r.2, (r.1.1, r.3))
