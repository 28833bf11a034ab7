-- What a pair of paths tells of the values of its matches, and that it stands for the same trees.
use Rattle.std.proofs.Common.{◌≡◌, ◌&&◌, ℕ, Bool, true, false, List, [], map, Option, Some, None, refl, sym, ◌∙◌, ap, subst}
use Rattle.std.specs.List.{filter}
use Rattle.std.proofs.lemmas.Bool.{false_from_ne_true, false≢true}
use Rattle.gcx_base.specs.declared.ids.Serial.{Serial}
use Rattle.gcx_base.specs.declared.rel.Rel.{Rel}
use Rattle.gcx_base.specs.declared.steps.Step.{Step}
use Rattle.gcx_model.specs.Growth.{Leads}
use Rattle.gcx_model.specs.Members.{In}
use Rattle.gcx_model.specs.Paths.{matches, value}
use Rattle.gcx_model.specs.Tree.{Node, serial_of, Tree, opening, is_closed}
use Rattle.gcx_model.specs.Truth.{settle}
use Rattle.gcx_model.specs.declared.truth.Truth.{Truth}
use Rattle.base_laws.proofs.Members.{in_map}
use Rattle.tree_laws.proofs.Lists.{In-filter, In-kept}
use Rattle.buf_tree.specs.View.{View}
use Rattle.cond_eval.proofs.Pairing.{some_pair_from, some_pair_to}
use Rattle.value_pairs.specs.Pairs.{SomePair}
use Rattle.value_pairs.specs.Taken.{TookBoth, TookBy}
use Rattle.value_pairs.specs.declared.compared.Compared.{Compared}
use Rattle.value_pairs.specs.declared.hand.Hand.TheVariants as hand
use Rattle.cond_memo.specs.PairCalls.{AsksBoth, MeetsOrAll, KeepsPaths, MayAskPair, MayLook, TakesSide, TellsFound, TellsTruth, TellsUnmet, TookOf, TurnsSide, pair_found}
use Rattle.cond_memo.specs.Pairs.{IsPair, paths_of}
use Rattle.cond_memo.specs.Taking.{AsksPath, IsTaken, TookAll, TookUpto}
use Rattle.cond_memo.specs.Waiting.{Fits}
use Rattle.cond_memo.specs.declared.pair.Pair.{Pair}
use Rattle.cond_memo.specs.declared.taken.Taken.{Taken}
use Rattle.cond_memo.proofs.PairSides.{TellsPairs}

-- ---- whether the relation holds of the values of two closed matches

module _ (P : Tree) (n m : Node) (left : List Step) (rel : Rel) (right : List Step) where
  abbrev ls : List Node
  ls = matches P (serial_of n) left

  abbrev rs : List Node
  rs = matches P (serial_of m) right

  -- a value that was taken is that of a closed match
  of_closed : (ms : List Node) (w : Option Serial) (b : ℕ) (vs : List (List ℕ)) → TookUpto P ms w b vs → (v : List ℕ) → In v vs → (j : Node) × In j (filter (is_closed P) ms) × (value P j ≡ v)
  of_closed ms w b vs t v i = let j = t.closed v i in (j.0, In-kept (is_closed P) j.0 ms j.1 j.2, j.3)

  to_closed : (ms : List Node) (vs : List (List ℕ)) → TookAll P ms vs → (j : Node) → In j (filter (is_closed P) ms) → In (value P j) vs
  to_closed ms vs all j i = let k = In-filter (is_closed P) j ms i in all j k.0 k.1

  pub found_met : (w x : Option Serial) (b d : ℕ) (us ts : List (List ℕ)) → TookUpto P ls w b us → TookUpto P rs x d ts → SomePair rel us ts → true ≡ pair_found P n m left rel right
  found_met w x b d us ts t u s = sym (some_pair_from P (filter (is_closed P) ls) (filter (is_closed P) rs) rel us ts (of_closed ls w b us t) (of_closed rs x d ts u) s)

  none_found : (us ts : List (List ℕ)) → ((j : Node) → In j (filter (is_closed P) ls) → In (value P j) us) → ((j : Node) → In j (filter (is_closed P) rs) → In (value P j) ts) → (SomePair rel us ts → ⊥) → false ≡ pair_found P n m left rel right
  none_found us ts a b none = sym (false_from_ne_true _ (λ e. none (some_pair_to P (filter (is_closed P) ls) (filter (is_closed P) rs) rel us ts a b e)))

  pub found_none : (us ts : List (List ℕ)) → TookAll P ls us → TookAll P rs ts → (SomePair rel us ts → ⊥) → false ≡ pair_found P n m left rel right
  found_none us ts a b none = none_found us ts (to_closed ls us a) (to_closed rs ts b) none

  -- where one side has no closed match
  pub bare_left : (us : List (List ℕ)) → us ≡ [] → TookAll P ls us → false ≡ pair_found P n m left rel right
  bare_left us e a =
      none_found us (map (value P) (filter (is_closed P) rs)) (to_closed ls us a) (λ j i. in_map (value P) j (filter (is_closed P) rs) i) (λ s. subst (λ (vs : List (List ℕ)). In s.one vs) e s.of_left)

  pub bare_right : (ts : List (List ℕ)) → ts ≡ [] → TookAll P rs ts → false ≡ pair_found P n m left rel right
  bare_right ts e b =
      none_found (map (value P) (filter (is_closed P) ls)) ts (λ j i. in_map (value P) j (filter (is_closed P) ls) i) (to_closed rs ts b) (λ s. subst (λ (vs : List (List ℕ)). In s.other vs) e s.of_right)

  -- where all of one side were taken, and then those of the other, or up to a pair
  module _ (w x : Option Serial) (b d : ℕ) (us ts : List (List ℕ)) (t : TookUpto P ls w b us) (u : TookUpto P rs x d ts) where
    pub left_before : TookAll P ls us → (found : Bool) → MeetsOrAll found hand.Right rel P rs ts us → found ≡ pair_found P n m left rel right
    left_before all true met = found_met w x b d us ts t u met
    left_before all false none = found_none us ts all none.1 none.0

    pub right_before : TookAll P rs ts → (found : Bool) → MeetsOrAll found hand.Left rel P ls us ts → found ≡ pair_found P n m left rel right
    right_before all true met = found_met w x b d us ts t u met
    right_before all false none = found_none us ts none.1 all none.0

-- ---- the values of both sides are taken

module _ (v : View) (q : Pair) (one two : ℕ) where
  -- first of the left one
  module _ (l : Taken) (d : Compared) where
    pub left_met : TakesSide v q.left l one hand.Left q.compared d true → TellsUnmet v q (record q { left = l; compared = d }) one two true
    left_met takes P keep n m ls rs a t unmet =
        let h = takes P keep n q.rel ls rs a.left_path t.of_left t.took unmet in (
          h.0,
          rs,
          record { took = h.1; of_left = h.2; of_right = t.of_right },
          found_met P n m q.left.steps q.rel q.right.steps l.waiting q.right.waiting l.below q.right.below h.0 rs h.2 t.of_right h.3,
        )

    module _ (takes : TakesSide v q.left l one hand.Left q.compared d false) where
      pub left_bare : ((rel : Rel) (vs ws : List (List ℕ)) → TookBy hand.Left d rel vs ws → vs ≡ []) → TellsUnmet v q (record q { left = l; compared = d }) one two false
      left_bare empty P keep n m ls rs a t unmet =
          let h = takes P keep n q.rel ls rs a.left_path t.of_left t.took unmet in (
            h.0,
            rs,
            record { took = h.1; of_left = h.2; of_right = t.of_right },
            bare_left P n m q.left.steps q.rel q.right.steps h.0 (empty q.rel h.0 rs h.1) h.3.1,
          )

      pub left_both : (r : Taken) (e : Compared) (b : Bool) → TakesSide v q.right r two hand.Right d e b → TellsUnmet v q (record q { left = l; right = r; compared = e }) one two b
      left_both r e b also P keep n m ls rs a t unmet =
          let h = takes P keep n q.rel ls rs a.left_path t.of_left t.took unmet in
          let k = also P keep m q.rel rs h.0 a.right_path t.of_right h.1 h.3.0 in (
            h.0,
            k.0,
            record { took = k.1; of_left = h.2; of_right = k.2 },
            left_before P n m q.left.steps q.rel q.right.steps l.waiting r.waiting l.below r.below h.0 k.0 h.2 k.2 h.3.1 b k.3,
          )

  -- or of the right one
  module _ (r : Taken) (d : Compared) where
    pub right_met : TakesSide v q.right r two hand.Right q.compared d true → TellsUnmet v q (record q { right = r; compared = d }) one two true
    right_met takes P keep n m ls rs a t unmet =
        let h = takes P keep m q.rel rs ls a.right_path t.of_right t.took unmet in (
          ls,
          h.0,
          record { took = h.1; of_left = t.of_left; of_right = h.2 },
          found_met P n m q.left.steps q.rel q.right.steps q.left.waiting r.waiting q.left.below r.below ls h.0 t.of_left h.2 h.3,
        )

    module _ (takes : TakesSide v q.right r two hand.Right q.compared d false) where
      pub right_bare : ((rel : Rel) (vs ws : List (List ℕ)) → TookBy hand.Right d rel vs ws → vs ≡ []) → TellsUnmet v q (record q { right = r; compared = d }) one two false
      right_bare empty P keep n m ls rs a t unmet =
          let h = takes P keep m q.rel rs ls a.right_path t.of_right t.took unmet in (
            ls,
            h.0,
            record { took = h.1; of_left = t.of_left; of_right = h.2 },
            bare_right P n m q.left.steps q.rel q.right.steps h.0 (empty q.rel h.0 ls h.1) h.3.1,
          )

      pub right_both : (l : Taken) (e : Compared) (b : Bool) → TakesSide v q.left l one hand.Left d e b → TellsUnmet v q (record q { left = l; right = r; compared = e }) one two b
      right_both l e b also P keep n m ls rs a t unmet =
          let h = takes P keep m q.rel rs ls a.right_path t.of_right t.took unmet in
          let k = also P keep n q.rel ls h.0 a.left_path t.of_left h.1 h.3.0 in (
            k.0,
            h.0,
            record { took = k.1; of_left = k.2; of_right = h.2 },
            right_before P n m q.left.steps q.rel q.right.steps l.waiting r.waiting l.below r.below k.0 h.0 k.2 h.2 h.3.1 b k.3,
          )

  -- ---- what was taken before

  pub told_before : TellsPairs q.compared true → TellsFound v q q one two true
  told_before met P keep n m ls rs a t =
      (ls, rs, t, found_met P n m q.left.steps q.rel q.right.steps q.left.waiting q.right.waiting q.left.below q.right.below ls rs t.of_left t.of_right ((met q.rel ls rs t.took).0 refl))

  pub told_since : TellsPairs q.compared false → (r : Pair) (b : Bool) → TellsUnmet v q r one two b → TellsFound v q r one two b
  told_since unmet r b tells P keep n m ls rs a t = tells P keep n m ls rs a t (λ pair. false≢true ((unmet q.rel ls rs t.took).1 pair))

-- ---- no more was changed than what was taken

module _ (q : Pair) where
  pub keeps_itself : KeepsPaths q q
  keeps_itself = refl

  pub keeps_left : (l : Taken) (d : Compared) → l ≡ record q.left { below = l.below; waiting = l.waiting } → KeepsPaths q (record q { left = l; compared = d })
  keeps_left l d e = ap (λ (x : Taken). record q { left = x; compared = d }) e

  pub keeps_right : (r : Taken) (d : Compared) → r ≡ record q.right { below = r.below; waiting = r.waiting } → KeepsPaths q (record q { right = r; compared = d })
  keeps_right r d e = ap (λ (x : Taken). record q { right = x; compared = d }) e

  pub keeps_both : (l r : Taken) (d : Compared) → l ≡ record q.left { below = l.below; waiting = l.waiting } → r ≡ record q.right { below = r.below; waiting = r.waiting }
      → KeepsPaths q (record q { left = l; right = r; compared = d })
  keeps_both l r d e f =
      ap (λ (x : Taken). record q { left = x; right = r; compared = d }) e
      ∙ ap (λ (x : Taken). record q { left = record q.left { below = l.below; waiting = l.waiting }; right = x; compared = d }) f

-- ---- a question

module _ (v : View) (q : Pair) (one two : ℕ) (of other_of : Serial) (l r : Taken) (d e : Compared)
    (fl : l ≡ record q.left { of = Some of; below = l.below; waiting = l.waiting }) (fr : r ≡ record q.right { of = Some other_of; below = r.below; waiting = r.waiting })
    (left_turns : TurnsSide hand.Left q.left l q.compared d of) (right_turns : TurnsSide hand.Right q.right r d e other_of) where
  abbrev turned : Pair
  turned = record q { left = l; right = r; compared = e }

  left_steps : l.steps ≡ q.left.steps
  left_steps = ap (λ (x : Taken). x.steps) fl

  right_steps : r.steps ≡ q.right.steps
  right_steps = ap (λ (x : Taken). x.steps) fr

  -- what is taken of the nodes, once it has turned to them
  turned_took : (P : Tree) → Leads opening P → (n m : Node) → In n P.nodes → In m P.nodes → serial_of n ≡ of.0 → serial_of m ≡ other_of.0 → IsPair q P
      → (us : List (List ℕ)) × (ts : List (List ℕ)) × TookOf turned q.left.steps q.rel q.right.steps P n m us ts
  turned_took P lo n m i j f g k =
      let h = left_turns P n q.rel k.lefts k.rights lo i f k.left k.took in
      let x = right_turns P m q.rel k.rights h.0 lo j g k.right h.1 in
      (h.0, x.0, record { took = x.1; of_left = h.2; of_right = x.2 })

  pub may_look : MayAskPair v q one of.0 two other_of.0 → MayLook v turned one two
  may_look a =
      let lo = a.asks.left_path.at.rows_of.grown in
      let t = turned_took a.tree lo a.left_node a.right_node a.asks.left_path.at.among a.asks.right_path.at.among a.left_serial a.right_serial a.pair in
      record {
        left = record {
          tree = a.tree;
          keep = a.keep;
          node = a.left_node;
          values = t.0;
          asks = subst (λ (s : List Step). AsksPath v one s a.tree a.keep a.left_node) (sym left_steps) a.asks.left_path;
          took = subst (λ (s : List Step). TookUpto a.tree (matches a.tree (serial_of a.left_node) s) l.waiting l.below t.0) (sym left_steps) t.2.of_left;
        };
        right = record {
          tree = a.tree;
          keep = a.keep;
          node = a.right_node;
          values = t.1;
          asks = subst (λ (s : List Step). AsksPath v two s a.tree a.keep a.right_node) (sym right_steps) a.asks.right_path;
          took = subst (λ (s : List Step). TookUpto a.tree (matches a.tree (serial_of a.right_node) s) r.waiting r.below t.1) (sym right_steps) t.2.of_right;
        };
        left_fits = fits_as q.left l of fl a.pair.left.fits;
        right_fits = fits_as q.right r other_of fr a.pair.right.fits;
      }
    where
      fits_as : (k x : Taken) (s : Serial) → x ≡ record k { of = Some s; below = x.below; waiting = x.waiting } → Fits k.steps k.last → Fits x.steps x.last
      fits_as k x s f h = subst (λ (z : Taken). Fits z.steps z.last) (sym f) h

  -- by the steps
  abbrev FoundBy : (now : Pair) → (left right : List Step) → Bool → Type 0
  FoundBy now left right b = (P : Tree) (keep : Node → Bool) (n m : Node) (ls rs : List (List ℕ)) → AsksBoth v one two left right P keep n m → TookOf turned left q.rel right P n m ls rs
      → (us : List (List ℕ)) × (ws : List (List ℕ)) × TookOf now left q.rel right P n m us ws × (b ≡ pair_found P n m left q.rel right)

  module _ (now : Pair) (keeps : KeepsPaths turned now) where
    left_is : now.left ≡ record q.left { of = Some of; below = now.left.below; waiting = now.left.waiting }
    left_is = ap (λ (x : Pair). x.left) keeps ∙ ap (λ (x : Taken). record x { below = now.left.below; waiting = now.left.waiting }) fl

    right_is : now.right ≡ record q.right { of = Some other_of; below = now.right.below; waiting = now.right.waiting }
    right_is = ap (λ (x : Pair). x.right) keeps ∙ ap (λ (x : Taken). record x { below = now.right.below; waiting = now.right.waiting }) fr

    pub same_paths : paths_of now ≡ paths_of q
    same_paths =
        ap paths_of keeps
        ∙ (ap (λ (s : List Step). (q.var, s, q.rel, q.other, r.steps)) left_steps ∙ ap (λ (s : List Step). (q.var, q.left.steps, q.rel, q.other, s)) right_steps)

    -- the side stands for the tree, where it is about the node
    side_is : (P : Tree) (x k : Taken) (s : Serial) (n : Node) (us : List (List ℕ)) → x ≡ record k { of = Some s; below = x.below; waiting = x.waiting } → Fits k.steps k.last → In n P.nodes → serial_of n ≡ s.0
        → TookUpto P (matches P (serial_of n) k.steps) x.waiting x.below us → IsTaken x P us
    side_is P x k s n us e fits i f t = subst (λ (z : Taken). IsTaken z P us) (sym e) (record {
      fits = fits;
      none = λ g. let z : ◌≡◌ {A = Option Serial} (Some s) None = g in absurd (cc);
      told = λ u g. (n, i, f ∙ same u g, t);
    })
      where
        same : (u : Serial) → ◌≡◌ {A = Option Serial} (Some s) (Some u) → s.0 ≡ u.0
        same u g = let h : s ≡ u = cc in ap (λ (z : Serial). z.0) h

    pub truth_told : (found : Bool) → TellsFound v turned now one two found → (over : Bool) → ((P : Tree) (keep : Node → Bool) (n m : Node) → AsksBoth v one two q.left.steps q.right.steps P keep n m → over ≡ (is_closed P n && is_closed P m))
        → (t : Truth) → t ≡ settle found over → TellsTruth v q now one of.0 two other_of.0 t
    truth_told found tells over over_is t e P keep n m a f g k =
        let lo = a.left_path.at.rows_of.grown in
        let took = turned_took P lo n m a.left_path.at.among a.right_path.at.among f g k in
        let by : FoundBy now q.left.steps q.right.steps found = subst (λ (s : List Step). FoundBy now q.left.steps s found) right_steps (subst (λ (s : List Step). FoundBy now s r.steps found) left_steps tells) in
        let h = by P keep n m took.0 took.1 a took.2 in (
          e ∙ (ap (λ (b : Bool). settle b over) h.3 ∙ ap (settle (pair_found P n m q.left.steps q.rel q.right.steps)) (over_is P keep n m a)),
          record {
            lefts = h.0;
            rights = h.1;
            took = subst (λ (x : Rel). TookBoth now.compared x h.0 h.1) (sym (ap (λ (x : Pair). x.rel) keeps)) h.2.took;
            left = side_is P now.left q.left of n h.0 left_is k.left.fits a.left_path.at.among f h.2.of_left;
            right = side_is P now.right q.right other_of m h.1 right_is k.right.fits a.right_path.at.among g h.2.of_right;
          },
        )

-- ---- a new pair

pub new_side : (t : Taken) → Fits t.steps t.last → t.of ≡ None → (P : Tree) → IsTaken t P []
new_side t fits none P = record { fits = fits; none = λ e. refl; told = λ s e. let z : ◌≡◌ {A = Option Serial} None (Some s) = sym none ∙ e in absurd (cc) }
