-- What a walk over the plan adds to the actions, part by part.
use Rattle.std.proofs.Common.{◌≡◌, ℕ, ◌+◌, ◌<◌, ◌≤◌, Bool, true, false, cond, List, [], ◌∷◌, ◌++◌, length, map, max, get_or, take, All, refl, sym, ◌∙◌, ap, subst, arith}
use Rattle.std.proofs.lemmas.List.{get_or-map, length-map, map-append, take_all, take_more}
use Rattle.gcx_base.specs.declared.kind.Kind.{Kind}
use Rattle.gcx_base.specs.declared.kind.Kind.TheVariants.{Document, Element}
use Rattle.gcx_base.specs.declared.steps.Step.{Step}
use Rattle.gcx_model.specs.Answer.{child_step, children}
use Rattle.gcx_model.specs.Core.{ItemTree, BodyTree, CondTree, For, If}
use Rattle.gcx_model.specs.ItemView.{body_of, item_tree}
use Rattle.gcx_model.specs.Members.{In}
use Rattle.gcx_model.specs.Paths.{matches}
use Rattle.gcx_model.specs.Run.{Wrote}
use Rattle.gcx_model.specs.Tree.{Node, Root, serial_of, kind_of, Tree}
use Rattle.gcx_model.specs.Truth.{Env, bind_var}
use Rattle.gcx_model.specs.Written.{start_tag, end_tag}
use Rattle.gcx_model.specs.declared.item.Item.{Item}
use Rattle.tree_laws.proofs.Matches.{Grown, Matches-in}
use Rattle.doc_tree.specs.Rows.{node_at}
use Rattle.time_laws.specs.Times.{Clock, TimedCourse, SettledTruth, one_act, none_till, then_on, rounds, copy_course_with, item_course, course, settled}
use Rattle.trace_check.specs.Acting.{Adds, WritesAt, whole_copy, copies_below, body_rounds}
use Rattle.trace_check.specs.Scopes.{bound_in, env_of}
use Rattle.trace_check.specs.declared.acts.TimedAct as code
use Rattle.trace_check.specs.declared.scope.Binding.{Binding}
use Rattle.trace_check.proofs.Adding.{adds_none, adds_same, adds_then, adds_write}
use Rattle.trace_check.proofs.Bound.{env_push}
use Rattle.trace_check.proofs.Courses.{child_later, copy_unfolds, course_push, rounds_over, rounds_push}
use Rattle.trace_check.proofs.Numbers.{at_in, in_tree, map_numbers, node_by, number_of}

map_id : {X : Type 0} (xs : List X) → map (λ x. x) xs ≡ xs
map_id [] = refl
map_id (x ∷ xs) = ap (λ ys. x ∷ ys) (map_id xs)

module _ (C : Tree) (w : Grown C) (n : ℕ) (steps : List Step) where
  -- the nodes with the numbers of what the steps reach
  pub nodes_back : map (node_at C.nodes) (map serial_of (matches C n steps)) ≡ matches C n steps
  nodes_back = map_numbers C w (node_at C.nodes) (λ m. m) (λ m i. node_by C w m i) n steps ∙ map_id (matches C n steps)

  -- one of them: its node, which is in the tree
  pub number_at : (k d : ℕ) → k < length (map serial_of (matches C n steps))
      → get_or (map serial_of (matches C n steps)) k d ≡ serial_of (get_or (matches C n steps) k Root)
  number_at k d l = get_or-map serial_of (matches C n steps) k Root d (let e = length-map (matches C n steps) serial_of in omega (arith, l, e))

  pub node_in : (k : ℕ) → k < length (map serial_of (matches C n steps)) → In (get_or (matches C n steps) k Root) (matches C n steps)
  node_in k l = at_in (matches C n steps) k (let e = length-map (matches C n steps) serial_of in omega (arith, l, e))

  pub numbers_there : All (λ (k : ℕ). k < length C.nodes) (map serial_of (matches C n steps))
  numbers_there k d l =
      let here = in_tree C w (get_or (matches C n steps) k Root) (Matches-in C n steps (get_or (matches C n steps) k Root) (node_in k l)).0 in
      let same = number_at k d l in
      omega (arith, here, same)

  -- the node with the number is that one
  pub node_back : (k i : ℕ) → k < length (map serial_of (matches C n steps)) → i ≡ get_or (map serial_of (matches C n steps)) k 0
      → node_at C.nodes i ≡ get_or (matches C n steps) k Root
  node_back k i l e =
      ap (node_at C.nodes) (e ∙ number_at k 0 l)
      ∙ node_by C w (get_or (matches C n steps) k Root) (Matches-in C n steps (get_or (matches C n steps) k Root) (node_in k l)).0

-- a turn more of a loop
pub turn_more : (c : Clock) (C : Tree) → Grown C → (bs : List Binding) (b : Binding) (d : BodyTree) (ns : List ℕ) (k : ℕ) (now : ℕ) (old mid new : List code.TimedAct) (u v : ℕ)
    → k < length ns → b.node ≡ get_or ns k 0 → b.node < length C.nodes
    → Adds old mid (body_rounds c C b.var.0 d (env_of C bs) (map (node_at C.nodes) (take k ns)) now) u
    → Adds mid new (course c C d (env_of C (bs ++ b ∷ [])) (max u (c.opened b.node))) v
    → Adds old new (body_rounds c C b.var.0 d (env_of C bs) (map (node_at C.nodes) (take (k + 1) ns)) now) v
turn_more c C w bs b d ns k now old mid new u v l e there h g =
    let f : Node → ℕ → TimedCourse = λ n u. course c C d (bind_var (env_of C bs) b.var.0 n) u in
    let node : Node = node_at C.nodes b.node in
    let before : List Node = map (node_at C.nodes) (take k ns) in
    let more : map (node_at C.nodes) (take (k + 1) ns) ≡ before ++ node ∷ []
    = ap (map (node_at C.nodes)) (take_more ns k 0 l ∙ ap (λ (x : ℕ). take k ns ++ x ∷ []) (sym e)) ∙ map-append (node_at C.nodes) (take k ns) (b.node ∷ []) in
    let turn : course c C d (env_of C (bs ++ b ∷ [])) (max u (c.opened b.node)) ≡ f node (max u (c.opened (serial_of node)))
    = ap (λ (env : Env). course c C d env (max u (c.opened b.node))) (env_push C bs b) ∙ ap (λ (x : ℕ). f node (max u (c.opened x))) (sym (number_of C w b.node there)) in
    adds_same old new _ _ v
    (sym (rounds_push c f before node now) ∙ ap (λ (l : List Node). rounds c f l 0 now) (sym more))
    (adds_then old mid new (rounds c f before 0 now) (λ t. f node (max t (c.opened (serial_of node)))) u v h (adds_same mid new _ _ v turn g))

-- an item more of a body
pub item_more : (c : Clock) (C : Tree) (env : Env) (items : List Item) (k : ℕ) (i : Item) (now : ℕ) (old mid new : List code.TimedAct) (u v : ℕ)
    → k < length items → i ≡ get_or items k i
    → Adds old mid (course c C (body_of (map item_tree (take k items))) env now) u
    → Adds mid new (item_course c C (item_tree i) env u) v
    → Adds old new (course c C (body_of (map item_tree (take (k + 1) items))) env now) v
item_more c C env items k i now old mid new u v l e h g =
    let more : map item_tree (take (k + 1) items) ≡ map item_tree (take k items) ++ item_tree i ∷ []
    = ap (map item_tree) (take_more items k i l ∙ ap (λ (x : Item). take k items ++ x ∷ []) (sym e)) ∙ map-append item_tree (take k items) (i ∷ []) in
    adds_same old new _ _ v
    (sym (course_push c C (map item_tree (take k items)) (item_tree i) env now) ∙ ap (λ (l : List ItemTree). course c C (body_of l) env now) (sym more))
    (adds_then old mid new (course c C (body_of (map item_tree (take k items))) env now) (λ t. item_course c C (item_tree i) env t) u v h g)

-- the end of a loop
pub rounds_end : (c : Clock) (f : Node → ℕ → TimedCourse) (ns : List Node) (over now : ℕ) (old new : List code.TimedAct) (u : ℕ)
    → Adds old new (rounds c f ns 0 now) u → Adds old new (rounds c f ns over now) (max u over)
rounds_end c f ns over now old new u h =
    adds_same old new (then_on (rounds c f ns 0 now) (λ t. none_till (max t over))) (rounds c f ns over now) (max u over) (sym (rounds_over c f ns over now))
    (adds_then old new new (rounds c f ns 0 now) (λ t. none_till (max t over)) u (max u over) h (adds_none new (max u over)))

-- a loop, from what was found of its turns
pub loop_done : (c : Clock) (C : Tree) → Grown C → (bs : List Binding) (x y : ℕ) (s : Step) (d : BodyTree) (item : ItemTree) → item ≡ For x y s d
    → (node : ℕ) → node ≡ bound_in 0 y bs → node < length C.nodes → (ns : List ℕ) → ns ≡ map serial_of (matches C (serial_of (node_at C.nodes node)) (s ∷ []))
    → (now : ℕ) (old new : List code.TimedAct) (u v : ℕ) → v ≡ max u (c.closed node)
    → Adds old new (body_rounds c C x d (env_of C bs) (map (node_at C.nodes) ns) now) u → Adds old new (item_course c C item (env_of C bs) now) v
loop_done c C w bs x y s d item tree node bound low ns e now old new u v last h =
    let f : Node → ℕ → TimedCourse = λ n t. course c C d (bind_var (env_of C bs) x n) t in
    let from : ℕ = serial_of (node_at C.nodes node) in
    let ms : List Node = matches C from (s ∷ []) in
    let back : map (node_at C.nodes) ns ≡ ms = ap (map (node_at C.nodes)) e ∙ nodes_back C w from (s ∷ []) in
    let turns : Adds old new (rounds c f ms 0 now) u = subst (λ (l : List Node). Adds old new (rounds c f l 0 now) u) back h in
    let time : max u (c.closed from) ≡ v = ap (λ (k : ℕ). max u (c.closed k)) (number_of C w node low) ∙ sym last in
    adds_same old new (rounds c f ms (c.closed from) now) (item_course c C item (env_of C bs) now) v
    (ap (λ (k : ℕ). rounds c f (matches C (serial_of (node_at C.nodes k)) (s ∷ [])) (c.closed (serial_of (node_at C.nodes k))) now) bound
    ∙ ap (λ (i : ItemTree). item_course c C i (env_of C bs) now) (sym tree))
    (subst (λ (t : ℕ). Adds old new (rounds c f ms (c.closed from) now) t) time (rounds_end c f ms (c.closed from) now old new u turns))

-- a choice, from what was found of its condition
pub choice_done : (c : Clock) (C : Tree) (env : Env) (k : CondTree) (a b d : BodyTree) (known : SettledTruth) (now at : ℕ)
    → known ≡ settled c C k env → cond known.truth a b ≡ d → at ≡ max now known.at → course c C d env at ≡ item_course c C (If k a b) env now
choice_done c C env k a b d known now at same chosen later =
    ap (λ (e : BodyTree). course c C e env at) (sym chosen) ∙ (ap (course c C (cond known.truth a b) env) later ∙ (inside known.truth
    ∙ ap (λ (s : SettledTruth). cond s.truth (course c C a env (max now s.at)) (course c C b env (max now s.at))) same))
  where
    inside : (t : Bool) → course c C (cond t a b) env (max now known.at) ≡ cond t (course c C a env (max now known.at)) (course c C b env (max now known.at))
    inside true = refl
    inside false = refl

-- ---- copies

module _ (c : Clock) (C : Tree) (w : Grown C) (node : ℕ) (there : node < length C.nodes) where
  abbrev n : Node
  n = node_at C.nodes node

  abbrev kids : List Node
  kids = children C n

  -- a child is there, and behind the node
  pub kid_there : (k i : ℕ) → k < length (map serial_of kids) → i ≡ get_or (map serial_of kids) k 0 → (i < length C.nodes) × (node < i)
  kid_there k i l e =
      let m = get_or kids k Root in
      let here = Matches-in C (serial_of n) (child_step ∷ []) m (node_in C w (serial_of n) (child_step ∷ []) k l) in
      let low = child_later C w (serial_of n) m here.0 here.1 in
      let high = in_tree C w m here.0 in
      let same = number_at C w (serial_of n) (child_step ∷ []) k 0 l in
      let own = number_of C w node there in
      (omega (arith, high, same, e), omega (arith, low, same, e, own))

  -- a child's copy more
  pub kid_more : (k i : ℕ) (now : ℕ) (old mid new : List code.TimedAct) (u v : ℕ) → k < length (map serial_of kids) → i ≡ get_or (map serial_of kids) k 0
      → Adds old mid (rounds c (whole_copy c C) (take k kids) 0 now) u → Adds mid new (whole_copy c C (node_at C.nodes i) (max u (c.opened i))) v
      → Adds old new (rounds c (whole_copy c C) (take (k + 1) kids) 0 now) v
  kid_more k i now old mid new u v l e h g =
      let m : Node = get_or kids k Root in
      let back : node_at C.nodes i ≡ m = node_back C w (serial_of n) (child_step ∷ []) k i l e in
      let own : i ≡ serial_of m = e ∙ number_at C w (serial_of n) (child_step ∷ []) k 0 l in
      let more : take (k + 1) kids ≡ take k kids ++ m ∷ [] = take_more kids k Root (let s = length-map kids serial_of in omega (arith, l, s)) in
      adds_same old new _ _ v
      (sym (rounds_push c (whole_copy c C) (take k kids) m now) ∙ ap (λ (l : List Node). rounds c (whole_copy c C) l 0 now) (sym more))
      (adds_then old mid new (rounds c (whole_copy c C) (take k kids) 0 now) (λ t. whole_copy c C m (max t (c.opened (serial_of m)))) u v h
      (adds_same mid new _ _ v (ap (λ (x : Node). whole_copy c C x (max u (c.opened i))) back ∙ ap (λ (x : ℕ). whole_copy c C m (max u (c.opened x))) own) g))

  -- all of them
  pub kids_end : (k now : ℕ) (old new : List code.TimedAct) (u : ℕ) → length (map serial_of kids) ≤ k
      → Adds old new (rounds c (whole_copy c C) (take k kids) 0 now) u → Adds old new (copies_below c C n now) (max u (c.closed node))
  kids_end k now old new u l h =
      let all : take k kids ≡ kids = take_all k kids (let s = length-map kids serial_of in omega (arith, l, s)) in
      let own : serial_of n ≡ node = number_of C w node there in
      subst (λ (x : ℕ). Adds old new (copies_below c C n now) (max u (c.closed x))) own
      (rounds_end c (whole_copy c C) kids (c.closed (serial_of n)) now old new u (subst (λ (l : List Node). Adds old new (rounds c (whole_copy c C) l 0 now) u) all h))

  unfolds : (k : Kind) → k ≡ kind_of n → (now : ℕ) → copy_course_with k (copies_below c C n) now ≡ whole_copy c C n now
  unfolds k e now = ap (λ (x : Kind). copy_course_with x (copies_below c C n) now) e ∙ sym (copy_unfolds c C w n (at_in C.nodes node there) now)

  pub element_copied : (name : List ℕ) → Element name ≡ kind_of n → (now : ℕ) (old one two new : List code.TimedAct) (u : ℕ)
      → WritesAt old one now (length (start_tag name)) → Adds one two (copies_below c C n now) u → WritesAt two new u (length (end_tag name))
      → Adds old new (whole_copy c C n now) u
  element_copied name e now old one two new u begun inner ended =
      adds_same old new _ _ u (unfolds (Element name) e now)
      (adds_then old one new (one_act now (Wrote (start_tag name))) (λ t. then_on (copies_below c C n t) (λ v. one_act v (Wrote (end_tag name)))) now u
      (adds_write old one (start_tag name) now (length (start_tag name)) refl begun)
      (adds_then one two new (copies_below c C n now) (λ v. one_act v (Wrote (end_tag name))) u u inner (adds_write two new (end_tag name) u (length (end_tag name)) refl ended)))

  pub document_copied : Document ≡ kind_of n → (now : ℕ) (old new : List code.TimedAct) (u : ℕ) → Adds old new (copies_below c C n now) u → Adds old new (whole_copy c C n now) u
  document_copied e now old new u h = adds_same old new _ _ u (unfolds Document e now) h
