-- A turn that feeds the next token, and one that takes the next action.
use Rattle.std.proofs.Common.{◌≡◌, ℕ, suc, ◌+◌, ◌*◌, ◌<◌, ◌≤◌, ◌^◌, true, List, [], ◌∷◌, ◌++◌, length, take, drop, map, sym, ◌∙◌, ap, subst, arith, Some, None, Option, Bool, false}
use Rattle.std.specs.Prelude.{Result, OnOk}
use Rattle.std.specs.declared.result.Result.TheVariants.{Ok, Err}
use Rattle.std.proofs.lemmas.List.{append-nil, length-append, map-append, take-append-drop, take_all}
use Rattle.std.proofs.lemmas.Bool.{false≢true, and_parts}
use Rattle.gcx_base.specs.declared.kind.Kind.TheVariants.{Element, Text}
use Rattle.gcx_model.specs.Tree.{Node, Root, Under, Tree, TreeToken as Said, Start, Chars, End, opening, grow, grow_all}
use Rattle.gcx_model.specs.Core.{PlanTree}
use Rattle.gcx_model.specs.Held.{sum_given}
use Rattle.gcx_model.specs.Growth.{may_come, may_all, level}
use Rattle.gcx_model.specs.Turning.{Turn, Feed, Act, Turned, tree_fed, turn, turned}
use Rattle.doc_reader.specs.Standing.{Token, said_of}
use Rattle.buf_tree.specs.View.{capped}
use Rattle.run_part.specs.Actors.{ComesWithin, Goes, bytes_at, ActsOneFrom, FeedsEach, MayFeed, StandAt}
use Rattle.engine.specs.declared.turns.Course.{Course}
use Rattle.engine.specs.declared.turns.Turn.{Turn as CodeTurn}
use Rattle.engine.specs.declared.turns.Turn.TheVariants as code
use Rattle.gcx_model.specs.Seen.{AreWithin}
use Rattle.engine.specs.Turns.{Reaches, TurnsOn, actions_in, turn_of, turns_of, written, from_start}
use Rattle.engine.proofs.TurnsTaken.{TurnedTo, acted_reaches, fed_reaches, feed_goes, none_left, still_reaches, token_comes, turned_front, turned_on}

-- ---- each token opens or closes a node, so there are at most two for each node

abbrev open_nodes : Option Node → ℕ
open_nodes None = 0
open_nodes (Some p) = suc (level p)

one_at : (t : Said) (ns : List Node) (at : Option Node) → may_come t (record { nodes = ns; at = at }) ≡ true
    → suc (open_nodes (grow t (record { nodes = ns; at = at })).at) + 2 * length ns ≤ open_nodes at + 2 * length (grow t (record { nodes = ns; at = at })).nodes
one_at t ns None may = absurd (false≢true may)
one_at (Start name) ns (Some p) may = let e = length-append ns (Under p (length ns) (Element name) ∷ []) in omega arith
one_at (Chars bytes) ns (Some p) may = let e = length-append ns (Under p (length ns) (Text bytes) ∷ []) in omega arith
one_at End ns (Some Root) may = omega arith
one_at End ns (Some (Under p s k)) may = omega arith

one_token : (t : Said) (P : Tree) → may_come t P ≡ true → suc (open_nodes (grow t P).at) + 2 * length P.nodes ≤ open_nodes P.at + 2 * length (grow t P).nodes
one_token t P may = one_at t P.nodes P.at may

few_tokens : (ts : List Said) (P : Tree) → may_all ts P ≡ true → length ts + open_nodes (grow_all ts P).at + 2 * length P.nodes ≤ open_nodes P.at + 2 * length (grow_all ts P).nodes
few_tokens [] P may = omega arith
few_tokens (t ∷ ts) P may =
    let m = and_parts (may_come t P) (may_all ts (grow t P)) may in
    let one = one_token t P m.0 in
    let more = few_tokens ts (grow t P) m.1 in
    omega arith

pub tokens_fit : (ts : List Said) → may_all ts opening ≡ true → AreWithin ts → length ts < 2 ^ 63
tokens_fit ts may within =
    let n : length (grow_all ts opening).nodes ≤ 2 ^ 40 + 1 = (within ts [] (sym (append-nil ts))).0 in
    let m : length ts + open_nodes (grow_all ts opening).at + 2 * 1 ≤ 1 + 2 * length (grow_all ts opening).nodes = few_tokens ts opening may in
    omega arith

-- ---- a token is fed

module _ {N C : Type 0} (stands : C → Tree → Type 0) (plan : PlanTree) (ts : List Said) (s : Turned) (a : Course N C) (h : Reaches stands plan ts s a) where
  abbrev P : Tree
  P = tree_fed ts s

  -- no token is left
  pub feeds_none : a.tokens.items ≡ [] → (d : Course N C) → d ≡ record a { tokens = d.tokens } → d.tokens.items ≡ a.tokens.items → Reaches stands plan ts (turn plan ts Feed s) d
  feeds_none e d same left =
      subst (λ (z : Turned). Reaches stands plan ts z d) (sym (none_left stands plan ts s a h (sym h.left ∙ ap (map said_of) e)))
      (subst (λ (z : Course N C). Reaches stands plan ts s z) (sym same) (record {
        may = h.may;
        within = h.within;
        actors = h.actors;
        there = h.there;
        left = ap (map said_of) left ∙ h.left;
        fed_is = h.fed_is;
        acted_is = h.acted_is;
        given_is = h.given_is;
      }))

  module _ (token : Token) (others : List Token) (first : a.tokens.items ≡ token ∷ others) where
    abbrev t : Said
    t = said_of token

    next : drop s.fed ts ≡ t ∷ map said_of others
    next = sym h.left ∙ ap (map said_of) first

    comes : ComesWithin t P
    comes = token_comes stands plan ts s a h t (map said_of others) next

    pub feed_fits : a.fed + 1 < 2 ^ 64
    feed_fits =
        let f = h.fed_is in
        let l = h.there in
        let w = tokens_fit ts h.may h.within in
        omega arith

    pub feed_may : MayFeed stands a.actors t
    feed_may = record { plan = plan; tree = P; taken = s.acted; of = h.actors; comes = comes }

    pub feeds : (d : Course N C) → FeedsEach stands a.actors d.actors t → d.tokens.items ≡ others → d.fed ≡ a.fed + 1 → d.acted ≡ a.acted → Reaches stands plan ts (turn plan ts Feed s) d
    feeds d fed left fed_on still =
        let one = fed plan P s.acted h.actors comes in
        fed_reaches stands plan ts s a h t (map said_of others) next d one.actors (ap (map said_of) left) fed_on still (one.counted.given h.given_is)

  -- ---- an action is taken

  module _ (out new : List ℕ) (d : Course N C) (tokens : d.tokens ≡ a.tokens) (fed_still : d.fed ≡ a.fed) (counts : d.actors.counts ≡ a.actors.counts) where
    pub acts : (more : Bool) → ActsOneFrom stands a.actors d.actors out new more → d.acted ≡ a.acted + actions_in more → TurnsOn stands plan ts s Act d out new
    acts true each k =
        let x = each plan P s.acted h.actors in
        acted_reaches stands plan ts s a h d x.1 x.0 tokens fed_still k (ap (λ z. z.given) counts) out new x.2
    acts false each k =
        let x = each plan P s.acted h.actors in
        let still : d.acted ≡ a.acted = omega arith in
        still_reaches stands plan ts s a h d x.1 x.0 tokens fed_still still (ap (λ z. z.given) counts) out new x.2

-- ---- turns

-- behind a feed, whichever it answered
pub feed_turns : {N C T E : Type 0} (stands : C → Tree → Type 0) (a d : Course N C) (w : List ℕ) (t : CodeTurn) (r : Result T E) → t ≡ code.Feed
    → OnOk r ((plan : PlanTree) (ts : List Said) (s : Turned) → Reaches stands plan ts s a → Reaches stands plan ts (turn plan ts Feed s) d)
    → OnOk r ((plan : PlanTree) (ts : List Said) (s : Turned) → Reaches stands plan ts s a → TurnsOn stands plan ts s (turn_of t) d w w)
feed_turns stands a d w t (Ok x) e f = λ plan ts s h. subst (λ (z : CodeTurn). TurnsOn stands plan ts s (turn_of z) d w w) (sym e) (record { reaches = f plan ts s h; goes = feed_goes stands plan ts s a h w })
feed_turns stands a d w t (Err x) e f = tt

-- before any turn
pub reaches_none : {N C : Type 0} (stands : C → Tree → Type 0) (plan : PlanTree) (ts : List Said) (a : Course N C) → may_all ts opening ≡ true → AreWithin ts
    → StandAt stands plan a.actors opening 0 → map said_of a.tokens.items ≡ ts → a.fed ≡ 0 → a.acted ≡ 0 → a.actors.counts.given ≡ capped (sum_given plan opening)
    → Reaches stands plan ts from_start a
reaches_none stands plan ts a may within actors left f k g = record { may = may; within = within; actors = actors; there = omega arith; left = left; fed_is = f; acted_is = k; given_is = g }

module _ (plan : PlanTree) (ts : List Said) (may : may_all ts opening ≡ true) (us : List CodeTurn) (k : ℕ) where
  parts_of : turns_of (take k us) ++ turns_of (drop k us) ≡ turns_of us
  parts_of = sym (map-append turn_of (take k us) (drop k us)) ∙ ap turns_of (take-append-drop k us)

  -- what was written behind some of the turns
  pub turns_within : (u v : List ℕ) → Goes plan opening 0 (tree_fed ts (turned plan ts (turns_of (take k us)))) (turned plan ts (turns_of (take k us))).acted u v
      → (part : List ℕ) × (rest : List ℕ) × (written plan ts us ≡ part ++ rest) × (v ≡ u ++ part)
  turns_within u v g =
      let f = turned_front plan ts may (turns_of (take k us)) (turns_of (drop k us)) u v g in
      (f.0, f.1, ap (λ (z : List Turn). bytes_at plan (tree_fed ts (turned plan ts z)) (turned plan ts z).acted) (sym parts_of) ∙ f.2, f.3)

  pub turns_reach : {N C : Type 0} (stands : C → Tree → Type 0) (a : Course N C) → length us ≤ k → Reaches stands plan ts (turned plan ts (turns_of (take k us))) a → Reaches stands plan ts (turned plan ts (turns_of us)) a
  turns_reach stands a l h = subst (λ (z : List CodeTurn). Reaches stands plan ts (turned plan ts (turns_of z)) a) (take_all k us l) h

  -- one turn more
  pub turns_on : {N C : Type 0} (stands : C → Tree → Type 0) (a d : Course N C) (u v w : List ℕ) (t : CodeTurn) → take (k + 1) us ≡ take k us ++ t ∷ [] → TurnedTo stands plan ts (turns_of (take k us)) a u v
      → TurnsOn stands plan ts (turned plan ts (turns_of (take k us))) (turn_of t) d v w → TurnedTo stands plan ts (turns_of (take (k + 1) us)) d u w
  turns_on stands a d u v w t e h o =
      subst (λ (z : List Turn). TurnedTo stands plan ts z d u w) (sym (ap turns_of e ∙ map-append turn_of (take k us) (t ∷ []))) (turned_on stands plan ts (turns_of (take k us)) (turn_of t) a d u v w h o)
