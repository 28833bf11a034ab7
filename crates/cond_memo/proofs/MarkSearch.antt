-- A search over the rows behind those that were looked at, and back over the matches that were open.
use Rattle.std.proofs.Common.{◌≡◌, ◌<◌, ◌≤◌, ℕ, suc, Bool, true, false, List, [], ◌∷◌, length, Option, Some, None, refl, sym, ◌∙◌, ap, subst, inl, inr, ◌⊎◌, arith}
use Rattle.std.proofs.lemmas.Bool.{false≢true, true≢false, cases_lt, cases_eq, eq-eqb}
use Rattle.gcx_base.specs.declared.ids.Serial.{Serial}
use Rattle.gcx_base.specs.declared.steps.Step.{Step}
use Rattle.gcx_model.specs.Tree.{Node, serial_of, above, Tree, opening, is_closed}
use Rattle.gcx_model.specs.Paths.{head, matches}
use Rattle.gcx_model.specs.Members.{In}
use Rattle.gcx_model.specs.Growth.{Leads}
use Rattle.tree_laws.proofs.Matches.{Grown, Numbered-high, Numbered-same, Matches-in, Matches-from}
use Rattle.tree_laws.proofs.Freeze.{within_self}
use Rattle.tree_laws.proofs.Chains.{above_self, above_in, above_trans}
use Rattle.run_laws.proofs.Feeds.{open_chain}
use Rattle.buf_tree.specs.Shape.{Cell, num}
use Rattle.buf_tree.specs.Match.{Reached, Unreached}
use Rattle.cond_eval.specs.Asking.{RowsOf}
use Rattle.cond_memo.specs.Marks.{does, is_settled, NotFound, WasOpen, Tried, IsOpenNow, Fits, KeepsAll, Looked, NextAbove}
use Rattle.cond_memo.specs.declared.mark.Ask.{Ask}
use Rattle.cond_eval.proofs.Rows.{OfNode, grown_tree, row_for, same_node, serial_told}
use Rattle.cond_eval.proofs.RowSteps.{reached_from}
use Rattle.cond_memo.proofs.MarkTrees.{above_low, fits_reach}

-- a match has been tried
abbrev pub IsTried : Tree → Option Ask → Option Serial → Node → Type 0
IsTried P ask waiting j = ((is_settled P ask j ≡ true) × (does P ask j ≡ false)) ⊎ WasOpen P waiting j

-- so have the matches that are kept, up to the serial `done`
pub record Seeking (P : Tree) (keep : Node → Bool) (ask : Option Ask) (ms : List Node) (waiting : Option Serial) (done : ℕ) : Type 0 where
  pub each : (j : Node) → In j ms → keep j ≡ true → serial_of j ≤ done → IsTried P ask waiting j
  pub open_in : (s : Serial) → waiting ≡ Some s → (o : Node) × In o ms × (serial_of o ≡ s.0) × (s.0 ≤ done)
  pub no_ask : ask ≡ None → waiting ≡ None
  pub now : IsOpenNow P waiting

-- ---- open nodes

-- what isn't settled is open
pub unsettled : (P : Tree) (ask : Option Ask) (m : Node) → is_settled P ask m ≡ false → is_closed P m ≡ false
unsettled P None m e = absurd (true≢false e)
unsettled P (Some a) m e = e

pub asks_some : (P : Tree) (ask : Option Ask) (m : Node) → is_settled P ask m ≡ false → ask ≡ None → ⊥
asks_some P None m e f = true≢false e
asks_some P (Some a) m e f = absurd (cc)

module _ (P : Tree) (lo : Leads opening P) where
  -- what is above an open node is open
  pub open_above : (o j : Node) → In o P.nodes → is_closed P o ≡ false → In j (above o) → is_closed P j ≡ false
  open_above o j i c k =
      let a = (open_chain P lo).0 o i c in
      ((open_chain P lo).1 a.0 j a.1 (above_trans j o a.0 k a.2)).1

-- ---- the rows behind

module _ (rows : List Cell) (P : Tree) (keep : Node → Bool) (of : RowsOf rows P keep) (ask : Option Ask) (steps : List Step) (last : Step) (some : steps ≡ [] → ⊥) (fits : Fits steps last) (n : Node) where
  abbrev ms : List Node
  ms = matches P (serial_of n) steps

  -- each match that is kept is the node of a row that the last step reaches
  match_row : (c : Cell) → In c rows → OfNode P keep c n → (done : ℕ) (j : Node) → In j ms → keep j ≡ true → done < serial_of j → (d : Cell) × OfNode P keep d j × Reached rows c last done d
  match_row c i o done j k kept l =
      let m = Matches-in P (serial_of n) steps j k in
      let d = row_for rows P keep of j m.0 kept in
      let r = fits_reach P (grown_tree rows P keep of) steps last (serial_of n) j m.0 some fits m.1 in
      (d.0, d.2, reached_from rows P keep of c d.0 n j last done i d.1 o d.2 r l)

  module _ (waiting next : Option Serial) (done : ℕ) (m : Node) (im : In m P.nodes) (high : done < serial_of m) (s : Seeking P keep ask ms waiting done) where
    -- a match that was open still is, or the one that is open now is the innermost
    was_open_on : Looked P steps ask n m waiting next false → (j : Node) → WasOpen P waiting j → WasOpen P next j
    was_open_on (inl l) j w = subst (λ (x : Option Serial). WasOpen P x j) (sym l.1) (m, im, l.2, go waiting s w)
      where
        go : (x : Option Serial) → Seeking P keep ask ms x done → WasOpen P x j → In j (above m)
        go None t w = absurd w
        go (Some u) t (o, i, e, k) =
            let c = t.now u refl o i e in
            let low = (t.open_in u refl).3 in
            above_trans j o m k ((open_chain P of.grown).2 o m i im c (unsettled P ask m l.4) (omega arith))
    was_open_on (inr l) j w = subst (λ (x : Option Serial). WasOpen P x j) (sym l.0) w

    tried_on : Looked P steps ask n m waiting next false → (j : Node) → IsTried P ask waiting j → IsTried P ask next j
    tried_on l j (inl d) = inl d
    tried_on l j (inr w) = inr (was_open_on l j w)

    tried_here : Looked P steps ask n m waiting next false → In m ms → IsTried P ask next m
    tried_here (inl l) i = inr (subst (λ (x : Option Serial). WasOpen P x m) (sym l.1) (m, im, l.2, above_self m))
    tried_here (inr (e, inl h)) i = absurd (false≢true (sym h ∙ (Matches-in P (serial_of n) steps m i).1))
    tried_here (inr (e, inr d)) i = inl d

    now_on : Looked P steps ask n m waiting next false → IsOpenNow P next
    now_on (inl l) u e o i f =
        let same : l.0 ≡ u = cc in
        let is : o ≡ m = same_node rows P keep of o m i im (f ∙ ap (λ (x : Serial). x.0) (sym same) ∙ sym l.2) in
        subst (λ (x : Node). is_closed P x ≡ false) (sym is) (unsettled P ask m l.4)
    now_on (inr l) u e o i f = s.now u (sym l.0 ∙ e) o i f

    in_on : Looked P steps ask n m waiting next false → (u : Serial) → next ≡ Some u → (o : Node) × In o ms × (serial_of o ≡ u.0) × (u.0 ≤ serial_of m)
    in_on (inl l) u e =
        let same : l.0 ≡ u = cc in
        let f = l.2 ∙ ap (λ (x : Serial). x.0) same in
        (m, Matches-from P (serial_of n) steps m im l.3, f, omega arith)
    in_on (inr l) u e = let o = s.open_in u (sym l.0 ∙ e) in let low = o.3 in (o.0, o.1, o.2, omega arith)

    none_on : Looked P steps ask n m waiting next false → ask ≡ None → next ≡ None
    none_on (inl l) e = absurd (asks_some P ask m l.4 e)
    none_on (inr l) e = l.0 ∙ s.no_ask e

    -- one row more was looked at: the first behind
    pub seek_on : (c d : Cell) → In c rows → OfNode P keep c n → OfNode P keep d m → ((e : Cell) → Reached rows c last done e → num d ≤ num e)
        → Looked P steps ask n m waiting next false → Seeking P keep ask ms next (serial_of m)
    seek_on c d i o u least l = record {
      each = λ j k kept low. each j k kept low (cases_lt done (serial_of j));
      open_in = in_on l;
      no_ask = none_on l;
      now = now_on l;
    }
      where
        each : (j : Node) → In j ms → keep j ≡ true → serial_of j ≤ serial_of m → (done < serial_of j) ⊎ (serial_of j ≤ done) → IsTried P ask next j
        each j k kept low (inr h) = tried_on l j (s.each j k kept h)
        each j k kept low (inl h) =
            let r = match_row c i o done j k kept h in
            let at = least r.0 r.2 in
            let e = serial_told rows P keep of r.0 j r.1 in
            let t = serial_told rows P keep of d m u in
            let is : j ≡ m = same_node rows P keep of j m (Matches-in P (serial_of n) steps j k).0 im (omega arith) in
            subst (λ (x : Node). IsTried P ask next x) (sym is) (tried_here l (subst (λ (x : Node). In x ms) is k))

  -- nothing is left to look at
  module _ (nodes : ℕ) (count : length P.nodes ≡ nodes) (waiting : Option Serial) (done : ℕ) (s : Seeking P keep ask ms waiting done) (kept : KeepsAll P keep ask ms) where
    all_seen : (c : Cell) → In c rows → OfNode P keep c n → Unreached rows c last done → (j : Node) → In j ms → keep j ≡ true → IsTried P ask waiting j
    all_seen c i o u j k e = elim (cases_lt done (serial_of j)) [
      | inl h ↦ (let r = match_row c i o done j k e h in absurd (u.none r.0 r.2))
      | inr h ↦ s.each j k e h
    ]

    first_of : (xs : List Node) (j : Node) → In j xs → (m : Node) × In m xs × (head xs ≡ Some m)
    first_of [] j i = absurd i
    first_of (x ∷ xs) j i = (x, inl refl, refl)

    each_seen : (a : Option Ask) → ask ≡ a → (c : Cell) → In c rows → OfNode P keep c n → Unreached rows c last done → (j : Node) → In j ms → IsTried P ask waiting j
    each_seen None e c i o u j k =
        let f = first_of ms j k in
        let kept : keep f.0 ≡ true = subst (λ (x : Option Ask). KeepsAll P keep x ms) e kept f.0 f.2 in
        let t = subst (λ (x : Option Serial). IsTried P None x f.0) (s.no_ask e) (subst (λ (x : Option Ask). IsTried P x waiting f.0) e (all_seen c i o u f.0 f.1 kept)) in
        elim t [
          | inl d ↦ absurd (true≢false d.1)
          | inr w ↦ absurd w
        ]
    each_seen (Some a) e c i o u j k =
        all_seen c i o u j k (subst (λ (x : Option Ask). KeepsAll P keep x ms) e kept j k j (Matches-in P (serial_of n) steps j k).0 (within_self (serial_of j) j (eq-eqb _ _ refl)))

    pub tried_all : (c : Cell) → In c rows → OfNode P keep c n → Unreached rows c last done → (upto : ℕ) → suc upto ≡ nodes → Tried P ask ms waiting upto × IsOpenNow P waiting
    tried_all c i o u upto e = (
      record {
        each = λ j k low. each_seen ask refl c i o u j k;
        open_in = λ t f. let q = s.open_in t f in let h = Numbered-high 0 P.nodes (grown_tree rows P keep of).numbered q.0 (Matches-in P (serial_of n) steps q.0 q.1).0 in let is = q.2 in (q.0, q.1, q.2, omega arith);
        no_ask = s.no_ask;
      },
      s.now,
    )

-- ---- the matches that were open

module _ (P : Tree) (lo : Leads opening P) (g : Grown P) (ask : Option Ask) (steps : List Step) (n : Node) where
  abbrev found_from : List Node
  found_from = matches P (serial_of n) steps

  -- what was tried settles the question for now
  pub not_found : (waiting : Option Serial) (upto : ℕ) → length P.nodes ≡ suc upto → Tried P ask found_from waiting upto → IsOpenNow P waiting → NotFound P ask found_from
  not_found waiting upto e t now j i settled done =
      let m = (Matches-in P (serial_of n) steps j i).0 in
      let h = Numbered-high 0 P.nodes g.numbered j m in
      elim (t.each j i (omega arith)) [
        | inl d ↦ false≢true (sym d.1 ∙ done)
        | inr w ↦ go ask waiting now t.no_ask w m settled
      ]
    where
      go : (a : Option Ask) (x : Option Serial) → IsOpenNow P x → (a ≡ None → x ≡ None) → WasOpen P x j → In j P.nodes → is_settled P a j ≡ true → ⊥
      go a None now none w m settled = w
      go None (Some s) now none w m settled = let f : ◌≡◌ {A = Option Serial} (Some s) None = none refl in absurd (cc)
      go (Some a) (Some s) now none w m settled = false≢true (sym (open_above P lo w.0 j w.1 (now s refl w.0 w.1 w.2) w.3) ∙ settled)

  -- The match that was open is closed, and doesn't do: the next one above it takes its place.
  pub back_on : (s : Serial) (next : Option Serial) (upto : ℕ) (o : Node) → In o P.nodes → serial_of o ≡ s.0 → is_settled P ask o ≡ true → does P ask o ≡ false → NextAbove steps n o next → Tried P ask found_from (Some s) upto → Tried P ask found_from next upto
  back_on s next upto o io is settled fails up t = record {
    each = λ j i low. each j i (t.each j i low) (cases_eq (serial_of j) (serial_of o));
    open_in = λ u e. open_in next up u e;
    no_ask = λ e. let f : ◌≡◌ {A = Option Serial} (Some s) None = t.no_ask e in absurd (cc);
  }
    where
      goes_up : (x : Option Serial) → NextAbove steps n o x → (j : Node) → In j found_from → In j (above o) → (serial_of j ≡ serial_of o → ⊥) → WasOpen P x j
      goes_up None k j i a ne = absurd (k j a ne (Matches-in P (serial_of n) steps j i).1)
      goes_up (Some u) k j i a ne = (k.0, above_in P g o k.0 io k.1, k.2, k.4 j a ne (Matches-in P (serial_of n) steps j i).1)

      each : (j : Node) → In j found_from → IsTried P ask (Some s) j → (serial_of j ≡ serial_of o) ⊎ (serial_of j ≡ serial_of o → ⊥) → IsTried P ask next j
      each j i (inl d) c = inl d
      each j i (inr w) (inl e) =
          let same : o ≡ j = Numbered-same 0 P.nodes g.numbered o j io (Matches-in P (serial_of n) steps j i).0 (sym e) in
          inl (subst (λ (x : Node). is_settled P ask x ≡ true) same settled, subst (λ (x : Node). does P ask x ≡ false) same fails)
      each j i (inr w) (inr ne) =
          let same : w.0 ≡ o = Numbered-same 0 P.nodes g.numbered w.0 o w.1 io (w.2 ∙ sym is) in
          inr (goes_up next up j i (subst (λ (x : Node). In j (above x)) same w.3) ne)

      open_in : (x : Option Serial) → NextAbove steps n o x → (u : Serial) → x ≡ Some u → (q : Node) × In q found_from × (serial_of q ≡ u.0) × (u.0 ≤ upto)
      open_in None k u e = absurd (cc)
      open_in (Some v) k u e =
          let same : v ≡ u = cc in
          let iq = above_in P g o k.0 io k.1 in
          let f : serial_of k.0 ≡ u.0 = k.2 ∙ ap (λ (x : Serial). x.0) same in
          let low = above_low P g o k.0 io k.1 in
          let top = (t.open_in s refl).3 in
          (k.0, Matches-from P (serial_of n) steps k.0 iq k.3, f, omega arith)

-- how many serials are left below that of the match that was open
abbrev pub serials_left : Option Serial → ℕ
serials_left None = 0
serials_left (Some s) = suc s.0
