-- Where the actions of a copy are cut in two, and that its frames stay while tokens come.
use Rattle.std.proofs.Common.{◌≡◌, ℕ, zero, suc, ◌+◌, ◌≤◌, Bool, true, List, [], ◌∷◌, ◌++◌, length, refl, sym, ◌∙◌, ap, subst, inl, inr, ◌⊎◌, arith, append_assoc, Some}
use Rattle.std.specs.List.{filter}
use Rattle.std.proofs.lemmas.List.{append-nil}
use Rattle.gcx_base.specs.declared.kind.Kind.{Kind}
use Rattle.gcx_base.specs.declared.kind.Kind.TheVariants.{Document, Element, Text}
use Rattle.gcx_model.specs.Tree.{Node, serial_of, kind_of, Tree, TreeToken, grow, grow_all, is_closed}
use Rattle.gcx_model.specs.Paths.{hits}
use Rattle.gcx_model.specs.Core.{Copy}
use Rattle.gcx_model.specs.Answer.{child_step, children}
use Rattle.gcx_model.specs.Written.{start_tag, end_tag, escaped}
use Rattle.gcx_model.specs.Run.{Action, Wrote, Out, wrote, seq, loop, copy_with}
use Rattle.gcx_model.specs.Copying.{CopyFrame, Inside, has_inside, begun, ended, copy_all, copies, last_of, ComesTo, Itself, Below, IsCopyPoint, InNode}
use Rattle.move_laws.specs.Copying.{Cut, AtStart, AtEnd, Amid, CopyIsCut}
use Rattle.tree_laws.proofs.Lists.{In, In-left}
use Rattle.tree_laws.proofs.Matches.{Grown, Grown-grow, Numbered-high, Matches-grow, Matches-in, added}
use Rattle.placed_laws.proofs.Prefix.{Before, loop_mono, item_grows}
use Rattle.placed_laws.proofs.AllTaken.{seq_both}
use Rattle.placed_laws.proofs.PointForms.{same_when_done}
use Rattle.placed_laws.proofs.Points as points
use Rattle.move_laws.proofs.CopyFrames.{at_once, step_over, IsCopyPoint-trans, child_above, child_in, mid_in, copy_is, copy_parts, closes}

-- a loop that is done is over
over_is : (f : Node → Out) (ns : List Node) (over : Bool) → (loop f ns over).done ≡ true → over ≡ true
over_is f [] over e = e
over_is f (n ∷ ns) over e = over_is f ns over (seq_both (f n) (loop f ns over) e).1

module _ (P : Tree) (w : Grown P) where
  begun_cut : (k : Kind) (before r : List Action) → begun k ≡ before ++ r → (before ≡ []) ⊎ (before ≡ begun k)
  begun_cut Document before r e = inl (points.none_left P before r e)
  begun_cut (Element name) before r e = points.one_action P before (Wrote (start_tag name)) r e
  begun_cut (Text b) before r e = inl (points.none_left P before r e)

  ended_cut : (k : Kind) (before r : List Action) → ended k ≡ before ++ r → (before ≡ []) ⊎ (before ≡ ended k)
  ended_cut Document before r e = inl (points.none_left P before r e)
  ended_cut (Element name) before r e = points.one_action P before (Wrote (end_tag name)) r e
  ended_cut (Text b) before r e = inl (points.none_left P before r e)

  -- the frames behind the copies of the first children
  here : (n : Node) (pre post : List Node) (before : List Action) → has_inside (kind_of n) ≡ true → children P n ≡ pre ++ post → (copies P pre).done ≡ true → before ≡ begun (kind_of n) ++ (copies P pre).acts → Cut P n before
  here n pre post before h e dn is = Amid (Inside n (last_of pre) ∷ []) (subst (λ (z : List Action). IsCopyPoint P n z (Inside n (last_of pre) ∷ [])) (sym is) (InNode pre post Itself h e dn))

  module _ (n : Node) (i : In n P.nodes) (ih : (m : Node) → In m (children P n) → (before rest : List Action) → (copy_all P m).acts ≡ before ++ rest → Cut P m before) (before : List Action) where
    abbrev inner : Out
    inner = loop (copy_all P) (children P n) (is_closed P n)

    abbrev closing : Out
    closing = at_once (ended (kind_of n))

    started : has_inside (kind_of n) ≡ true → before ≡ begun (kind_of n) → Cut P n before
    started h e = here n [] (children P n) before h refl refl (e ∙ sym (append-nil (begun (kind_of n))))

    -- within the copy of a child
    in_child : has_inside (kind_of n) ≡ true → (pre : List Node) (m : Node) (post : List Node) (c : List Action) → children P n ≡ pre ++ m ∷ post → (copies P pre).done ≡ true → before ≡ begun (kind_of n) ++ ((copies P pre).acts ++ c) → Cut P m c → Cut P n before
    in_child h pre m post c ch dn is (AtStart e) = here n pre (m ∷ post) before h ch dn (is ∙ (ap (λ z. begun (kind_of n) ++ ((copies P pre).acts ++ z)) e ∙ ap (λ z. begun (kind_of n) ++ z) (append-nil (copies P pre).acts)))
    in_child h pre m post c ch dn is (AtEnd e) =
        Amid (Inside n (Some m) ∷ []) (subst (λ (z : List Action). IsCopyPoint P n z (Inside n (Some m) ∷ [])) (append_assoc (begun (kind_of n)) (copies P pre).acts c ∙ sym is)
        (step_over P n n [] [] pre m post c Itself h ch dn e))
    in_child h pre m post c ch dn is (Amid fs q) =
        Amid (fs ++ Inside n (Some m) ∷ []) (subst (λ (z : List Action). IsCopyPoint P n z (fs ++ Inside n (Some m) ∷ [])) (append_assoc (begun (kind_of n)) (copies P pre).acts c ∙ sym is)
        (IsCopyPoint-trans P n m (begun (kind_of n) ++ (copies P pre).acts) c (Inside n (Some m) ∷ []) fs (Below pre m post Itself h ch dn) q))

    in_loop : has_inside (kind_of n) ≡ true → (c : List Action) → before ≡ begun (kind_of n) ++ c → points.Cut_loop P (copy_all P) (children P n) c → Cut P n before
    in_loop h c is (points.Outside e) = started h (is ∙ (ap (λ z. begun (kind_of n) ++ z) e ∙ append-nil (begun (kind_of n))))
    in_loop h c is (points.Within pre m post c' rest' ch dn e f) = in_child h pre m post c' ch dn (is ∙ ap (λ z. begun (kind_of n) ++ z) e) (ih m (mid_in P w n pre m post ch) c' rest' f)

    at_close : has_inside (kind_of n) ≡ true → inner.done ≡ true → (c : List Action) → before ≡ begun (kind_of n) ++ (inner.acts ++ c) → (c ≡ []) ⊎ (c ≡ ended (kind_of n)) → Cut P n before
    at_close h dn c is r =
        let o : is_closed P n ≡ true = over_is (copy_all P) (children P n) (is_closed P n) dn in
        let same : inner ≡ copies P (children P n) = ap (loop (copy_all P) (children P n)) o in
        let dn' : (copies P (children P n)).done ≡ true = ap (λ (z : Out). z.done) (sym same) ∙ dn in
        let is' : before ≡ begun (kind_of n) ++ ((copies P (children P n)).acts ++ c) = is ∙ ap (λ (z : Out). begun (kind_of n) ++ (z.acts ++ c)) same in
        elim r [
          | inl e ↦ here n (children P n) [] before h (sym (append-nil (children P n))) dn' (is' ∙ (ap (λ z. begun (kind_of n) ++ ((copies P (children P n)).acts ++ z)) e ∙ ap (λ z. begun (kind_of n) ++ z) (append-nil (copies P (children P n)).acts)))
          | inr e ↦ AtEnd (closes P w n (children P n) i h refl dn' o ∙ ap at_once (append_assoc (begun (kind_of n)) (copies P (children P n)).acts (ended (kind_of n)) ∙ (ap (λ z. begun (kind_of n) ++ ((copies P (children P n)).acts ++ z)) (sym e) ∙ sym is')))
        ]

    in_inner : has_inside (kind_of n) ≡ true → (c rest : List Action) → before ≡ begun (kind_of n) ++ c → points.Cut_seq P inner closing c rest → Cut P n before
    in_inner h c rest is (points.First r e) = in_loop h c is (points.cut_loop P (copy_all P) (children P n) (is_closed P n) c r e)
    in_inner h c rest is (points.Second dn c' e f) = at_close h dn c' (is ∙ ap (λ z. begun (kind_of n) ++ z) e) (ended_cut (kind_of n) c' rest f)

    in_parts : has_inside (kind_of n) ≡ true → (rest : List Action) → points.Cut_seq P (at_once (begun (kind_of n))) (seq inner closing) before rest → Cut P n before
    in_parts h rest (points.First r e) = elim (begun_cut (kind_of n) before r e) [
      | inl f ↦ AtStart f
      | inr f ↦ started h f
    ]
    in_parts h rest (points.Second dn c e f) = in_inner h c rest e (points.cut_seq P inner closing c rest f)

    with_inside : has_inside (kind_of n) ≡ true → (rest : List Action) → (copy_all P n).acts ≡ before ++ rest → Cut P n before
    with_inside h rest e = in_parts h rest (points.cut_seq P (at_once (begun (kind_of n))) (seq inner closing) before rest (sym (ap (λ (z : Out). z.acts) (copy_parts P w n (children P n) i h refl)) ∙ e))

    of_text : (b : List ℕ) → kind_of n ≡ Text b → (rest : List Action) → (copy_all P n).acts ≡ before ++ rest → Cut P n before
    of_text b k rest e =
        let is : copy_all P n ≡ wrote (escaped b) = copy_is P w n i ∙ ap (λ z. copy_with z inner) k in
        elim (points.one_action P before (Wrote (escaped b)) rest (sym (ap (λ (z : Out). z.acts) is) ∙ e)) [
          | inl f ↦ AtStart f
          | inr f ↦ AtEnd (is ∙ ap at_once (sym f))
        ]

    pub cut_at : (rest : List Action) → (copy_all P n).acts ≡ before ++ rest → Cut P n before
    cut_at rest e = go (kind_of n) refl
      where
        go : (k : Kind) → kind_of n ≡ k → Cut P n before
        go Document k = with_inside (ap has_inside k) rest e
        go (Element name) k = with_inside (ap has_inside k) rest e
        go (Text b) k = of_text b k rest e

  pub cut : (most : ℕ) (n : Node) → In n P.nodes → length P.nodes ≤ most + serial_of n → (before rest : List Action) → (copy_all P n).acts ≡ before ++ rest → Cut P n before
  cut zero n i l before rest e = let r = Numbered-high 0 P.nodes w.numbered n i in absurd (omega arith)
  cut (suc most) n i l before rest e = cut_at n i (λ m j b r f.
      let q = child_in P w n m j in
      let a = child_above P w (serial_of n) m q.0 (children_hit m j) in
      cut most m q.0 (omega arith) b r f) before rest e
    where
      children_hit : (m : Node) → In m (children P n) → hits (serial_of n) (child_step ∷ []) m ≡ true
      children_hit m j = (Matches-in P (serial_of n) (child_step ∷ []) m j).1

pub copy_is_cut : CopyIsCut
copy_is_cut P w n i before rest e = cut P w (length P.nodes) n i (omega arith) before rest e

-- while tokens come

module _ (t : TreeToken) (P : Tree) (w : Grown P) where
  copies_stay : (pre : List Node) → ((a : Node) → In a pre → In a P.nodes) → (copies P pre).done ≡ true → copies P pre ≡ copies (grow t P) pre
  copies_stay pre h dn =
      let each : (a : Node) → In a pre → Before (copy_all P a) (copy_all (grow t P) a) = λ a j. item_grows t P w (Copy 0) (λ x. a) (λ x. let r = Numbered-high 0 P.nodes w.numbered a (h a j) in omega arith) in
      let grown : Before (copies P pre) (loop (copy_all (grow t P)) (pre ++ []) true) = loop_mono (copy_all P) (copy_all (grow t P)) pre [] true true each (λ q. (refl, refl)) in
      same_when_done _ _ grown dn ∙ ap (λ z. loop (copy_all (grow t P)) z true) (append-nil pre)

  children_more : (m : Node) (pre post : List Node) → children P m ≡ pre ++ post → children (grow t P) m ≡ pre ++ (post ++ filter (hits (serial_of m) (child_step ∷ [])) (added t P))
  children_more m pre post e = Matches-grow t P (serial_of m) (child_step ∷ []) ∙ (ap (λ z. z ++ filter (hits (serial_of m) (child_step ∷ [])) (added t P)) e ∙ append_assoc pre post _)

  first_in : (m : Node) (pre post : List Node) → children P m ≡ pre ++ post → (a : Node) → In a pre → In a P.nodes
  first_in m pre post e a j = (child_in P w m a (subst (λ (z : List Node). In a z) (sym e) (In-left a pre post j))).0

  comes_stays : (n m : Node) (before : List Action) (fs : List CopyFrame) → ComesTo P n m before fs → ComesTo (grow t P) n m before fs
  comes_stays n m before fs Itself = Itself
  comes_stays n m before fs (Below {m = o} {before = b} {below = below} pre c post h has e dn) =
      let same = copies_stay pre (first_in o pre (c ∷ post) e) dn in
      subst (λ (z : List Action). ComesTo (grow t P) n c (b ++ (begun (kind_of o) ++ z)) (Inside o (Some c) ∷ below)) (sym (ap (λ (z : Out). z.acts) same))
      (Below pre c _ (comes_stays n o b below h) has (children_more o pre (c ∷ post) e) (ap (λ (z : Out). z.done) (sym same) ∙ dn))

  within_stays : (n : Node) (before : List Action) (fs : List CopyFrame) → IsCopyPoint P n before fs → IsCopyPoint (grow t P) n before fs
  within_stays n before fs (InNode {m = o} {before = b} {below = below} pre post h has e dn) =
      let same = copies_stay pre (first_in o pre post e) dn in
      subst (λ (z : List Action). IsCopyPoint (grow t P) n (b ++ (begun (kind_of o) ++ z)) (Inside o (last_of pre) ∷ below)) (sym (ap (λ (z : Out). z.acts) same))
      (InNode pre _ (comes_stays n o b below h) has (children_more o pre post e) (ap (λ (z : Out). z.done) (sym same) ∙ dn))

pub within_all : (ts : List TreeToken) (P : Tree) → Grown P → (n : Node) (before : List Action) (fs : List CopyFrame) → IsCopyPoint P n before fs → IsCopyPoint (grow_all ts P) n before fs
within_all [] P w n before fs h = h
within_all (t ∷ ts) P w n before fs h = within_all ts (grow t P) (Grown-grow t P w) n before fs (within_stays t P w n before fs h)
