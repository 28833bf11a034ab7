-- Which closed matches were taken, as one more is, as an open one is passed, and once none is left.
use Rattle.std.proofs.Common.{◌≡◌, ◌<◌, ◌≤◌, ℕ, suc, true, false, List, [], ◌∷◌, length, Option, Some, None, refl, sym, ◌∙◌, ap, subst, inl, inr, ◌⊎◌, arith}
use Rattle.std.proofs.lemmas.Bool.{false≢true, cases_eq, cases_lt}
use Rattle.gcx_base.specs.declared.ids.Serial.{Serial}
use Rattle.gcx_base.specs.declared.steps.Step.{Step}
use Rattle.gcx_model.specs.Growth.{Leads}
use Rattle.gcx_model.specs.Members.{In}
use Rattle.gcx_model.specs.Paths.{matches, value}
use Rattle.gcx_model.specs.Tree.{Node, serial_of, above, Tree, opening, is_closed}
use Rattle.run_laws.proofs.Feeds.{open_chain}
use Rattle.tree_laws.proofs.Chains.{above_self, above_in, above_trans}
use Rattle.tree_laws.proofs.Matches.{Grown, Matches-from, Matches-in, Numbered-high, Numbered-same}
use Rattle.cond_memo.specs.Marks.{IsOpenNow, NextAbove, WasOpen}
use Rattle.cond_memo.specs.Taking.{TookAll, TookUpto}
use Rattle.cond_memo.proofs.MarkSearch.{open_above}
use Rattle.cond_memo.proofs.MarkTrees.{above_low}

-- the node was taken, or was open when it was looked at
abbrev pub IsLookedAt : Tree → Option Serial → List (List ℕ) → Node → Type 0
IsLookedAt P waiting vs j = ((is_closed P j ≡ true) × In (value P j) vs) ⊎ WasOpen P waiting j

same_number : (s t : Serial) → ◌≡◌ {A = Option Serial} (Some s) (Some t) → s.0 ≡ t.0
same_number s t e = let f : s ≡ t = cc in ap (λ (x : Serial). x.0) f

module _ (P : Tree) (lo : Leads opening P) (g : Grown P) (n : Node) (steps : List Step) where
  abbrev ms : List Node
  ms = matches P (serial_of n) steps

  in_tree : (j : Node) → In j ms → In j P.nodes
  in_tree j i = (Matches-in P (serial_of n) steps j i).0

  low_match : (j : Node) → In j ms → serial_of j < length P.nodes
  low_match j i = let h = Numbered-high 0 P.nodes g.numbered j (in_tree j i) in omega arith

  one_match : (j m : Node) → In j ms → In m ms → serial_of j ≡ serial_of m → j ≡ m
  one_match j m i k e = Numbered-same 0 P.nodes g.numbered j m (in_tree j i) (in_tree m k) e

  -- ---- a value more

  more_values : (waiting : Option Serial) (vs : List (List ℕ)) (v : List ℕ) (j : Node) → IsLookedAt P waiting vs j → IsLookedAt P waiting (v ∷ vs) j
  more_values waiting vs v j (inl d) = inl (d.0, inr d.1)
  more_values waiting vs v j (inr w) = inr w

  module _ (vs : List (List ℕ)) (m : Node) (i : In m ms) (c : is_closed P m ≡ true) where
    closed_more : ((v : List ℕ) → In v vs → (j : Node) × In j ms × (is_closed P j ≡ true) × (value P j ≡ v))
        → (v : List ℕ) → In v (value P m ∷ vs) → (j : Node) × In j ms × (is_closed P j ≡ true) × (value P j ≡ v)
    closed_more h v (inl e) = (m, i, c, e)
    closed_more h v (inr k) = h v k

    -- the value of a closed match
    pub took_more : (waiting : Option Serial) (below : ℕ) → TookUpto P ms waiting below vs → TookUpto P ms waiting below (value P m ∷ vs)
    took_more waiting below t = record {
      most = t.most;
      each = λ j k l. more_values waiting vs (value P m) j (t.each j k l);
      open_in = t.open_in;
      closed = closed_more t.closed;
    }

    -- the first match that wasn't looked at is taken
    pub took_one : (waiting : Option Serial) → TookUpto P ms waiting (serial_of m) vs → TookUpto P ms waiting (suc (serial_of m)) (value P m ∷ vs)
    took_one waiting t = record {
      most = let l = low_match m i in omega arith;
      each = λ j k l. each j k l (cases_lt (serial_of j) (serial_of m));
      open_in = λ s e. let o = t.open_in s e in let l = o.3 in (o.0, o.1, o.2, omega arith);
      closed = closed_more t.closed;
    }
      where
        each : (j : Node) → In j ms → serial_of j < suc (serial_of m) → (serial_of j < serial_of m) ⊎ (serial_of m ≤ serial_of j) → IsLookedAt P waiting (value P m ∷ vs) j
        each j k l (inl h) = more_values waiting vs (value P m) j (t.each j k h)
        each j k l (inr h) =
            let same : j ≡ m = one_match j m k i (omega arith) in
            inl (subst (λ (x : Node). is_closed P x ≡ true) (sym same) c, inl (ap (value P) (sym same)))

    -- The match that was open is taken: the next one above it takes its place.
    pub took_back : (s : Serial) → s.0 ≡ serial_of m → (next : Option Serial) → NextAbove steps n m next → (below : ℕ) → TookUpto P ms (Some s) below vs → TookUpto P ms next below (value P m ∷ vs)
    took_back s is next up below t = record {
      most = t.most;
      each = λ j k l. each j k (t.each j k l) (cases_eq (serial_of j) (serial_of m));
      open_in = open_in next up;
      closed = closed_more t.closed;
    }
      where
        goes_up : (x : Option Serial) → NextAbove steps n m x → (j : Node) → In j ms → In j (above m) → (serial_of j ≡ serial_of m → ⊥) → WasOpen P x j
        goes_up None k j h a ne = absurd (k j a ne (Matches-in P (serial_of n) steps j h).1)
        goes_up (Some u) k j h a ne = (k.0, above_in P g m k.0 (in_tree m i) k.1, k.2, k.4 j a ne (Matches-in P (serial_of n) steps j h).1)

        each : (j : Node) → In j ms → IsLookedAt P (Some s) vs j → (serial_of j ≡ serial_of m) ⊎ (serial_of j ≡ serial_of m → ⊥) → IsLookedAt P next (value P m ∷ vs) j
        each j k (inl d) e = inl (d.0, inr d.1)
        each j k (inr w) (inl e) =
            let same : j ≡ m = one_match j m k i e in
            inl (subst (λ (x : Node). is_closed P x ≡ true) (sym same) c, inl (ap (value P) (sym same)))
        each j k (inr w) (inr ne) =
            let same : w.0 ≡ m = Numbered-same 0 P.nodes g.numbered w.0 m w.1 (in_tree m i) (w.2 ∙ is) in
            inr (goes_up next up j k (subst (λ (x : Node). In j (above x)) same w.3) ne)

        open_in : (x : Option Serial) → NextAbove steps n m x → (u : Serial) → x ≡ Some u → (q : Node) × In q ms × (serial_of q ≡ u.0) × (u.0 < below)
        open_in None k u e = absurd (cc)
        open_in (Some v) k u e =
            let f : serial_of k.0 ≡ u.0 = k.2 ∙ same_number v u e in
            let iq = above_in P g m k.0 (in_tree m i) k.1 in
            let low = above_low P g m k.0 (in_tree m i) k.1 in
            let top = (t.open_in s refl).3 in
            (k.0, Matches-from P (serial_of n) steps k.0 iq k.3, f, omega arith)

  -- ---- the bound rises

  -- no match stands between the two bounds
  pub took_to : (waiting : Option Serial) (from below : ℕ) (vs : List (List ℕ)) → from ≤ below → below ≤ length P.nodes → ((j : Node) → In j ms → from ≤ serial_of j → below ≤ serial_of j) → TookUpto P ms waiting from vs → TookUpto P ms waiting below vs
  took_to waiting from below vs low most none t = record {
    most = most;
    each = λ j i l. elim (cases_lt (serial_of j) from) [
      | inl h ↦ t.each j i h
      | inr h ↦ (let f = none j i h in absurd (omega arith))
    ];
    open_in = λ s e. let o = t.open_in s e in let l = o.3 in (o.0, o.1, o.2, omega arith);
    closed = t.closed;
  }

  -- the first match from the bound on is open, and so is what was: it waits
  module _ (waiting : Option Serial) (from : ℕ) (vs : List (List ℕ)) (t : TookUpto P ms waiting from vs) (still : IsOpenNow P waiting) (m : Node) (i : In m ms) (c : is_closed P m ≡ false) (high : from ≤ serial_of m)
      (least : (j : Node) → In j ms → from ≤ serial_of j → serial_of m ≤ serial_of j) (s : Serial) (is : serial_of m ≡ s.0) where
    still_above : (x : Option Serial) → TookUpto P ms x from vs → IsOpenNow P x → (j : Node) → WasOpen P x j → In j (above m)
    still_above None u now j w = absurd w
    still_above (Some o) u now j w =
        let d = now o refl w.0 w.1 w.2 in
        let l = (u.open_in o refl).3 in
        let e = w.2 in
        above_trans j w.0 m w.3 ((open_chain P lo).2 w.0 m w.1 (in_tree m i) d c (omega arith))

    pub took_open : TookUpto P ms (Some s) (suc (serial_of m)) vs
    took_open = record {
      most = let l = low_match m i in omega arith;
      each = λ j k l. each j k l (cases_lt (serial_of j) from);
      open_in = λ u e. let f = same_number s u e in (m, i, is ∙ f, omega arith);
      closed = t.closed;
    }
      where
        each : (j : Node) → In j ms → serial_of j < suc (serial_of m) → (serial_of j < from) ⊎ (from ≤ serial_of j) → IsLookedAt P (Some s) vs j
        each j k l (inl h) = elim (t.each j k h) [
          | inl d ↦ inl d
          | inr w ↦ inr (m, in_tree m i, is, still_above waiting t still j w)
        ]
        each j k l (inr h) =
            let up = least j k h in
            let same : m ≡ j = one_match m j i k (omega arith) in
            inr (m, in_tree m i, is, subst (λ (x : Node). In x (above m)) same (above_self m))

    pub open_now : IsOpenNow P (Some s)
    open_now u e o io f =
        let h = same_number s u e in
        let same : m ≡ o = Numbered-same 0 P.nodes g.numbered m o (in_tree m i) io (is ∙ (h ∙ sym f)) in
        subst (λ (x : Node). is_closed P x ≡ false) same c

  -- ---- all

  -- where all were looked at, and what was open still is, all that are closed were taken
  pub took_all : (waiting : Option Serial) (below : ℕ) (vs : List (List ℕ)) → below ≡ length P.nodes → TookUpto P ms waiting below vs → IsOpenNow P waiting → TookAll P ms vs
  took_all waiting below vs e t still j i c = let l = low_match j i in go waiting still (t.each j i (omega arith))
    where
      go : (x : Option Serial) → IsOpenNow P x → IsLookedAt P x vs j → In (value P j) vs
      go x now (inl d) = d.1
      go None now (inr w) = absurd w
      go (Some s) now (inr w) = absurd (false≢true (sym (open_above P lo w.0 j w.1 (now s refl w.0 w.1 w.2) w.3) ∙ c))

-- nothing is taken yet
pub took_none : (P : Tree) (ms : List Node) → TookUpto P ms None 0 []
took_none P ms = record {
  most = omega arith;
  each = λ j i l. absurd (omega arith);
  open_in = λ s e. absurd (cc);
  closed = λ v i. absurd i;
}
