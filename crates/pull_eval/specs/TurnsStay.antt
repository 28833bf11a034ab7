-- What loops go by stays while rows keep their places and tokens come: the proof of a law.
use Rattle.std.proofs.Common.{◌≡◌, ℕ, true, List, [], ◌∷◌, Option, Some, None, refl, sym, ◌∙◌, subst, inl}
use Rattle.gcx_base.specs.declared.steps.Step.{Step}
use Rattle.gcx_model.specs.Tree.{Node, serial_of, Tree, opening, is_closed}
use Rattle.gcx_model.specs.Paths.{matches}
use Rattle.gcx_model.specs.Members.{In}
use Rattle.gcx_model.specs.Growth.{Leads, stays}
use Rattle.tree_laws.proofs.Freeze.{closed_below, hits_within}
use Rattle.tree_laws.proofs.Fed.{grown_from, nodes_stay}
use Rattle.tree_laws.proofs.Growing.{fed_all, Leads-trans}
use Rattle.tree_laws.proofs.Matches.{Matches-in}
use Rattle.move_laws.proofs.Keeping.{closed_stays}
use Rattle.pass_laws.specs.ValueLists.{IsValueAt}
use Rattle.buf_tree.specs.Shape.{Cell}
use Rattle.cond_eval.specs.Asking.{PlacedAt}
use Rattle.cond_eval.specs.declared.sets.Member.{Member}
use Rattle.pull_eval.specs.declared.turns.Entry.{Entry}
use Rattle.pull_eval.specs.declared.turns.Turns.{Turns}
use Rattle.pull_eval.specs.Turns.{AreListed, Chosen, IsFirstHit, IsHit, IsTurns, Lists, TurnsStand, turns_at}

-- rows of the nodes that there are keep their places
abbrev pub KeepPlaces : (rows now : List Cell) → Tree → Type 0
KeepPlaces rows now P = (n : Node) (p : ℕ) → In n P.nodes → PlacedAt rows (serial_of n) p → PlacedAt now (serial_of n) p

module _ (P Q : Tree) (lo : Leads opening P) (l : Leads P Q) where
  stays_in : (n : Node) → In n P.nodes → In n Q.nodes
  stays_in n i = let f = fed_all P Q l in subst (λ (t : Tree). In n t.nodes) (sym f.2) (nodes_stay f.0 P n i)

  -- the matches of a closed node are closed
  match_closed : (n m : Node) (steps : List Step) → is_closed P n ≡ true → In m (matches P (serial_of n) steps) → In m P.nodes × (is_closed P m ≡ true)
  match_closed n m steps c i =
      let q = Matches-in P (serial_of n) steps m i in
      (q.0, closed_below P (grown_from P lo) n m q.0 (hits_within (serial_of n) steps m q.1) c)

  module _ (n : Node) (among : In n P.nodes) (closed : is_closed P n ≡ true) where
    same_matches : (steps : List Step) → matches Q (serial_of n) steps ≡ matches P (serial_of n) steps
    same_matches steps = (closed_stays P Q lo l n among closed).1 steps

    value_now : (steps : List Step) (v : List ℕ) → IsValueAt P n steps v → IsValueAt Q n steps v
    value_now steps v (m, i, e) =
        let c = match_closed n m steps closed i in
        (m, subst (λ (z : List Node). In m z) (sym (same_matches steps)) i, (closed_stays P Q lo l m c.0 c.1).2 ∙ e)

    value_old : (steps : List Step) (v : List ℕ) → IsValueAt Q n steps v → IsValueAt P n steps v
    value_old steps v (m, i, e) =
        let j = subst (λ (z : List Node). In m z) (same_matches steps) i in
        let c = match_closed n m steps closed j in
        (m, j, sym (closed_stays P Q lo l m c.0 c.1).2 ∙ e)

  module _ (rows now : List Cell) (places : KeepPlaces rows now P) where
    hit_now : (h : Member) (j : Node) → In j P.nodes → IsHit rows h j → IsHit now h j
    hit_now h j i hit = (hit.0, places j h.place i hit.1)

    -- of closed nodes, each value at each
    listed_now : (steps : List Step) (ms : List Node) (es : List Entry) → ((j : Node) → In j ms → In j P.nodes × (is_closed P j ≡ true)) → AreListed rows P steps ms es → AreListed now Q steps ms es
    listed_now steps ms es there a = record {
      each = λ j i v w.
          let c = there j i in
          let e = a.each j i v (value_old j c.0 c.1 steps v w) in
          (e.0, e.1, e.2, hit_now e.0.hit j c.0 e.3);
      only = λ e i.
          let j = a.only e i in
          let c = there j.0 j.1 in
          (j.0, j.1, hit_now e.hit j.0 c.0 j.2, value_now j.0 c.0 c.1 steps e.text j.3);
    }

    first_now : (ms : List Node) (h : Option Member) → ((j : Node) → In j ms → In j P.nodes) → IsFirstHit rows ms h → IsFirstHit now ms h
    first_now ms None there f = f
    first_now ms (Some h) there (m, rest, e, hit) = (m, rest, e, hit_now h m (there m (subst (λ (z : List Node). In m z) (sym e) (inl refl))) hit)

    module _ (t : Turns) (a : Node) (k : Lists rows P t a) where
      same : turns_at Q t a ≡ turns_at P t a
      same = same_matches a k.among k.closed (t.step.now ∷ [])

      turn_closed : (j : Node) → In j (turns_at P t a) → In j P.nodes × (is_closed P j ≡ true)
      turn_closed j i = match_closed a j (t.step.now ∷ []) k.closed i

      lists_now : Lists now Q t a
      lists_now = record {
        grown = Leads-trans opening P Q lo l;
        among = stays_in a k.among;
        closed = (closed_stays P Q lo l a k.among k.closed).0;
        first = subst (λ (z : List Node). IsFirstHit now z t.first) (sym same) (first_now (turns_at P t a) t.first (λ j i. (turn_closed j i).0) k.first);
        listed = subst (λ (z : List Node). AreListed now Q t.own.now z t.entries.items) (sym same) (listed_now t.own.now (turns_at P t a) t.entries.items turn_closed k.listed);
        by_text = k.by_text;
      }

      chosen_now : (b : Node) → Chosen rows P t a b → Chosen now Q t a b
      chosen_now b c = record {
        among = stays_in b c.among;
        closed = (closed_stays P Q lo l b c.among c.closed).0;
        each = λ j i w.
            let m = subst (λ (z : List Node). In j z) same i in
            let d = turn_closed j m in
            let h = c.each j m (w.0, value_old j d.0 d.1 t.own.now w.0 w.1, value_old b c.among c.closed t.other.now w.0 w.2) in
            (h.0, h.1, hit_now h.0 j d.0 h.2);
        only = λ h i.
            let j = c.only h i in
            let d = turn_closed j.0 j.1 in
            let w = j.3 in
            (j.0, subst (λ (z : List Node). In j.0 z) (sym same) j.1, hit_now h j.0 d.0 j.2, (w.0, value_now j.0 d.0 d.1 t.own.now w.0 w.1, value_now b c.among c.closed t.other.now w.0 w.2));
        by_serial = c.by_serial;
      }

-- what was looked at stays while tokens come,
turns_grow : (P Q : Tree) → Leads opening P → Leads P Q → (rows now : List Cell) → KeepPlaces rows now P → (t : Turns) → IsTurns rows P t → IsTurns now Q t
turns_grow P Q lo l rows now places t is = record {
  lists = λ s e. let k = is.lists s e in (k.0, k.1, lists_now P Q lo l rows now places t k.0 k.2);
  chosen = λ s o e f. let k = is.chosen s o e f in (k.0, k.1, k.2, k.3, lists_now P Q lo l rows now places t k.0 k.4, chosen_now P Q lo l rows now places t k.0 k.4 k.1 k.5);
}

pub all_grow : (P Q : Tree) → Leads opening P → Leads P Q → (rows now : List Cell) → KeepPlaces rows now P → (ts : List Turns) → TurnsStand rows P ts → TurnsStand now Q ts
all_grow P Q lo l rows now places ts k = record { each = λ t i. turns_grow P Q lo l rows now places t (k.each t i); once = k.once }

-- and while rows keep their places
turns_places : (rows now : List Cell) (P : Tree) (t : Turns) → ((s p : ℕ) → PlacedAt rows s p → PlacedAt now s p) → IsTurns rows P t → IsTurns now P t
turns_places rows now P t places is = record {
  lists = λ s e. let k = is.lists s e in (k.0, k.1, lists_now P P k.2.grown stays rows now kept t k.0 k.2);
  chosen = λ s o e f. let k = is.chosen s o e f in (k.0, k.1, k.2, k.3, lists_now P P k.4.grown stays rows now kept t k.0 k.4, chosen_now P P k.4.grown stays rows now kept t k.0 k.4 k.1 k.5);
}
  where
    kept : KeepPlaces rows now P
    kept n p i = places (serial_of n) p

pub all_placed : (rows now : List Cell) (P : Tree) (ts : List Turns) → ((s p : ℕ) → PlacedAt rows s p → PlacedAt now s p) → TurnsStand rows P ts → TurnsStand now P ts
all_placed rows now P ts places k = record { each = λ t i. turns_places rows now P t places (k.each t i); once = k.once }
