-- A mark's way back over the matches that were open.
use Rattle.std.proofs.Common.{◌≡◌, ◌<◌, ◌≤◌, ◌+◌, ℕ, Bool, true, false, not, List, [], ◌∷◌, Option, Some, None, refl, sym, ◌∙◌, ap, subst, inl, inr, ◌⊎◌, arith}
use Rattle.std.specs.Prelude.{Result, IfOk}
use Rattle.std.specs.declared.result.Result.TheVariants.{Ok, Err}
use Rattle.std.proofs.lemmas.Bool.{true≢false, eq-eqb}
use Rattle.gcx_base.specs.declared.ids.Serial.{Serial}
use Rattle.gcx_base.specs.declared.steps.Step.{Step}
use Rattle.gcx_model.specs.Tree.{Node, serial_of, above, Tree, is_closed}
use Rattle.gcx_model.specs.Paths.{matches}
use Rattle.gcx_model.specs.Members.{In}
use Rattle.tree_laws.proofs.Matches.{Grown, Matches-in}
use Rattle.tree_laws.proofs.Freeze.{within_self}
use Rattle.tree_laws.proofs.Chains.{hits_above}
use Rattle.buf_tree.specs.Shape.{Cell}
use Rattle.cond_eval.specs.Reads.{NodeAt}
use Rattle.cond_memo.specs.Marks.{is_settled, IsFound, Tried, IsOpenNow, KeepsAll, Asks, KeepsValue, LooksUpto, Searched, Found, NextAbove, IsShut, StillOpen}
use Rattle.cond_memo.specs.Calls.{TellsDoes, FindsUpwards}
use Rattle.cond_memo.specs.declared.mark.Ask.{Ask}
use Rattle.cond_memo.specs.declared.mark.Mark.{Mark}
use Rattle.cond_eval.proofs.Rows.{OfNode, grown_tree, same_node, of_serial, closed_told, node_at}
use Rattle.cond_memo.proofs.MarkTrees.{hit_high}
use Rattle.cond_memo.proofs.MarkSearch.{not_found, back_on}
use Rattle.cond_memo.proofs.MarkLooks.{keeps_value}

pub does_as : (rows : List Cell) (q : ℕ) (b : Bool) (x y : Option Ask) → x ≡ y → TellsDoes rows x q b → TellsDoes rows y q b
does_as rows q b x y e h = subst (λ (z : Option Ask). TellsDoes rows z q b) e h

pub above_as : (rows : List Cell) (p q : ℕ) (x y : List Step) (next : Option Serial) → x ≡ y → (y ≡ [] → ⊥) → FindsUpwards rows x p q next
    → (P : Tree) (keep : Node → Bool) (n : Node) → NodeAt rows P keep p n → (o : Node) → NodeAt rows P keep q o → In n (above o) → serial_of n < serial_of o → NextAbove y n o next
above_as rows p q x y next e some h P keep n a o u i l = subst (λ (z : List Step). FindsUpwards rows z p q next) e h P keep n o a u i l some

module _ (rows : List Cell) (nodes : ℕ) (steps : List Step) (ask : Option Ask) (p : ℕ) (P : Tree) (keep : Node → Bool) (n : Node) (a : Asks rows nodes steps ask p P keep n) (waiting : Option Serial) (upto : ℕ) where
  abbrev ms : List Node
  ms = matches P (serial_of n) steps

  abbrev g : Grown P
  g = grown_tree rows P keep a.at.rows_of

  -- the match that was open, at its place
  pub record Waited (q : ℕ) (s : Serial) : Type 0 where
    pub node : Node
    pub among : In node ms
    pub serial : serial_of node ≡ s.0
    pub at : NodeAt rows P keep q node
    pub settled : is_settled P ask node ≡ true
    pub kept : KeepsValue P keep ask node

  pub waited : Tried P ask ms waiting upto → (q : ℕ) (h : IsShut rows waiting q) → Waited q h.serial
  waited t q h = record {
    node = o.0;
    among = o.1;
    serial = o.2;
    at = subst (λ k. NodeAt rows P keep k o.0) h.place (node_at rows P keep a.at.rows_of h.cell o.0 h.among of);
    settled = go ask;
    kept = keeps_value P keep ask ms o.0 a.kept o.1;
  }
    where
      o : (o : Node) × In o ms × (serial_of o ≡ h.serial.0) × (h.serial.0 ≤ upto)
      o = t.open_in h.serial h.is

      of : OfNode P keep h.cell o.0
      of = of_serial rows P keep a.at.rows_of h.cell o.0 h.among (Matches-in P (serial_of n) steps o.0 o.1).0 (h.number ∙ sym o.2)

      go : (x : Option Ask) → is_settled P x o.0 ≡ true
      go None = refl
      go (Some k) = sym (closed_told rows P keep a.at.rows_of h.cell o.0 of) ∙ ap not h.closed

  pub back_found : Tried P ask ms waiting upto → (q : ℕ) (h : IsShut rows waiting q) (b : Bool) → TellsDoes rows ask q b → b ≡ true → IsFound P ask ms
  back_found t q h b d e = let w = waited t q h in record { match_at = w.node; among = w.among; settled = w.settled; does_so = sym (d P keep w.node w.at w.kept) ∙ e }

  some_high : (path : List Step) → (path ≡ [] → ⊥) → (o : Node) → In o (matches P (serial_of n) path) → serial_of n < serial_of o
  some_high [] some o i = absurd (some refl)
  some_high (s ∷ rest) some o i = let m = Matches-in P (serial_of n) (s ∷ rest) o i in hit_high P g (serial_of n) s rest o m.0 m.1

  above_match : (o : Node) → In o ms → In n (above o)
  above_match o i = let m = Matches-in P (serial_of n) steps o i in hits_above P g n steps o a.at.among m.0 m.1

  pub back_goes : (steps ≡ [] → ⊥) → Tried P ask ms waiting upto → (q : ℕ) (h : IsShut rows waiting q) (b : Bool) → TellsDoes rows ask q b → b ≡ false → (next : Option Serial)
      → ((o : Node) → NodeAt rows P keep q o → In n (above o) → serial_of n < serial_of o → NextAbove steps n o next) → Tried P ask ms next upto
  back_goes some t q h b d e next up =
      let w = waited t q h in
      back_on P a.at.rows_of.grown g ask steps n h.serial next upto w.node (Matches-in P (serial_of n) steps w.node w.among).0 w.serial w.settled (sym (d P keep w.node w.at w.kept) ∙ e)
      (up w.node w.at (above_match w.node w.among) (some_high steps some w.node w.among)) (subst (λ (x : Option Serial). Tried P ask ms x upto) h.is t)

  pub back_ends : Tried P ask ms waiting upto → StillOpen rows p waiting → IsOpenNow P waiting
  back_ends t still s e o io f =
      let u = t.open_in s e in
      let m = (Matches-in P (serial_of n) steps u.0 u.1).0 in
      let same : u.0 ≡ o = same_node rows P keep a.at.rows_of u.0 o m io (u.2 ∙ sym f) in
      subst (λ (x : Node). is_closed P x ≡ false) same (still s e P keep n u.0 a.at m (kept_now ask refl u.0 u.1 m) u.2 (above_match u.0 u.1))
    where
      kept_now : (x : Option Ask) → ask ≡ x → (u : Node) → In u ms → In u P.nodes → keep u ≡ true
      kept_now None h u i m = let z : ◌≡◌ {A = Option Serial} (Some s) None = sym e ∙ t.no_ask h in absurd (cc)
      kept_now (Some k) h u i m = subst (λ (x : Option Ask). KeepsAll P keep x ms) h a.kept u i u m (within_self (serial_of u) u (eq-eqb (serial_of u) (serial_of u) refl))

-- ---- both searches

abbrev pub LookedOn : {E : Type 0} (rows : List Cell) (nodes p : ℕ) (waiting : Option Serial) (upto : ℕ) → Result Bool E → Mark → Type 0
LookedOn rows nodes p waiting upto r m = IfOk r (λ b. (P : Tree) (keep : Node → Bool) (n : Node) → Asks rows nodes m.steps m.ask p P keep n
    → Tried P m.ask (matches P (serial_of n) m.steps) m.waiting m.upto.0 → IsOpenNow P m.waiting → Searched P m.ask (matches P (serial_of n) m.steps) waiting upto b)

-- the search over the new rows, behind that over those that were open
pub found_after : {E : Type 0} (rows : List Cell) (nodes p : ℕ) (m after : Mark) (was : Option Serial) (b : Bool) → after ≡ record m { waiting = was } → b ≡ false → (m.steps ≡ [] → ⊥)
    → ((P : Tree) (keep : Node → Bool) (n : Node) → Asks rows nodes m.steps m.ask p P keep n → Tried P m.ask (matches P (serial_of n) m.steps) m.waiting m.upto.0 → Searched P m.ask (matches P (serial_of n) m.steps) was m.upto.0 b)
    → (waiting : Option Serial) (before upto : ℕ) (r : Result Bool E) → LookedOn rows nodes p waiting upto r after → IfOk r (λ d. LooksUpto nodes before upto d)
    → IfOk r (λ d. (P : Tree) (keep : Node → Bool) (n : Node) → Asks rows nodes m.steps m.ask p P keep n → ((m.steps ≡ [] → ⊥) → Tried P m.ask (matches P (serial_of n) m.steps) m.waiting m.upto.0)
    → Found P m.steps m.ask (matches P (serial_of n) m.steps) waiting upto d)
found_after {E} rows nodes p m after was b e f some back waiting before upto (Err x) looked up = tt
found_after {E} rows nodes p m after was b e f some back waiting before upto (Ok d) looked up = λ P keep n a t.
    let s = subst (λ (x : Bool). Searched P m.ask (matches P (serial_of n) m.steps) was m.upto.0 x) f (back P keep n a (t some)) in
    let h = subst (λ (x : Mark). LookedOn {E = E} rows nodes p waiting upto (Ok d) x) e looked in
    go d P keep n a (h P keep n a s.0 s.1) up
  where
    go : (d : Bool) (P : Tree) (keep : Node → Bool) (n : Node) → Asks rows nodes m.steps m.ask p P keep n → Searched P m.ask (matches P (serial_of n) m.steps) waiting upto d → LooksUpto nodes before upto d
        → Found P m.steps m.ask (matches P (serial_of n) m.steps) waiting upto d
    go true P keep n a s u = (s, λ h. absurd (true≢false h))
    go false P keep n a s u = (not_found P a.at.rows_of.grown (grown_tree rows P keep a.at.rows_of) m.ask m.steps n waiting upto (let c = a.count in omega arith) s.0 s.1, λ h some. s.0)

pub upto_either : {E : Type 0} (nodes old before after : ℕ) (r : Result Bool E) → before ≡ old → IfOk r (λ b. LooksUpto nodes before after b) → IfOk r (λ _. (after ≡ old) ⊎ (after + 1 ≡ nodes))
upto_either nodes old before after (Err x) e h = tt
upto_either nodes old before after (Ok true) e h = inl (h ∙ e)
upto_either nodes old before after (Ok false) e h = inr h
