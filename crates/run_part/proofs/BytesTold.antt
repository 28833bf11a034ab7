-- How many bytes lines tell as written: those of actions exactly what the actions write, the others none.
use Rattle.std.proofs.Common.{◌≡◌, ℕ, ◌+◌, ◌≤◌, List, [], ◌∷◌, ◌++◌, length, map, drop, Option, Some, None, refl, sym, ◌∙◌, ap, arith}
use Rattle.std.specs.Prelude.{flat_map}
use Rattle.std.proofs.lemmas.List.{append-nil, length-append}
use Rattle.std.proofs.lemmas.Grind.{flat_map-append}
use Rattle.std.proofs.Math.Seq.{drop-append_seam}
use Rattle.gcx_model.specs.Tree.{Node, Root, Tree, TreeToken as Said, Start, Chars, End, opening, grow, grow_all}
use Rattle.gcx_model.specs.Members.{In}
use Rattle.gcx_model.specs.Nodes.{Grown}
use Rattle.gcx_model.specs.Core.{PlanTree}
use Rattle.gcx_model.specs.Run.{Action, Wrote, Offed, Out, run, env0, bytes_of}
use Rattle.gcx_model.specs.Held.{held, departed}
use Rattle.gcx_model.specs.Growth.{Leads}
use Rattle.gcx_model.specs.Points.{actions, so_far}
use Rattle.gcx_model.specs.Seen.{seen_tree}
use Rattle.gcx_model.specs.Demand.{Line, Opened, Closed, Left, Written, SignedOff, act_lines, feed_line, feed_lines, demand, trace_lines}
use Rattle.tree_laws.proofs.Matches.{Grown-grow, Grown-opening}
use Rattle.tree_laws.proofs.Fed.{grown_from, nodes_stay, root_from, root_in}
use Rattle.placed_laws.proofs.Prefix.{Before, Same, More}
use Rattle.placed_laws.proofs.Waits.{root_bound}
use Rattle.placed_laws.proofs.Whole.{run_grows_all}
use Rattle.run_part.specs.Actors.{all_of, bytes_at}
use Rattle.run_part.specs.Order.{bytes_told}
use Rattle.run_part.specs.Taker.{output_text}
use Rattle.run_part.specs.Telling.{fed_lines, lines_to}
use Rattle.run_part.proofs.TellingActs.{lines_split}
use Rattle.run_part.proofs.Writing.{all_is}

-- ---- numbers

none_more : (n : ℕ) → 0 + n ≡ n
none_more n = omega arith

-- what is told of two parts
told_sum : (n f d p q r : ℕ) → n ≡ f + d → f + p ≡ q → d + q ≡ r → n + p ≡ r
told_sum n f d p q r a b c = omega (arith, a, b, c)

-- what the rest tells
told_rest : (n p q r : ℕ) → n ≡ r → q ≡ p + r → n + p ≡ q
told_rest n p q r a b = omega (arith, a, b)

-- no more than was written more
told_least : (n p q x y m : ℕ) → n + p ≡ q → x ≡ p → y ≡ q → y ≡ x + m → n ≤ m
told_least n p q x y m a b c d = omega (arith, a, b, c, d)

told_all : (n x d p q y : ℕ) → n ≡ x + d → x ≡ p → d + p ≡ q → y ≡ q → n ≤ y
told_all n x d p q y a b c e = omega (arith, a, b, c, e)

told_second : (n f s : ℕ) → s ≡ f + n → n + f ≡ s
told_second n f s a = omega (arith, a)

-- ---- lists of lines

pub told_append : (ls ms : List Line) → bytes_told (ls ++ ms) ≡ bytes_told ls + bytes_told ms
told_append [] ms = sym (none_more (bytes_told ms))
told_append (Opened n k roles ∷ ls) ms = told_append ls ms
told_append (Closed n ∷ ls) ms = told_append ls ms
told_append (Left n ∷ ls) ms = told_append ls ms
told_append (Written n ∷ ls) ms = let h = told_append ls ms in omega (arith, h)
told_append (SignedOff n r ∷ ls) ms = told_append ls ms

-- behind lines that tell none
told_behind : (ls ms : List Line) → bytes_told ls ≡ 0 → bytes_told (ls ++ ms) ≡ bytes_told ms
told_behind ls ms e = let h = told_append ls ms in omega (arith, h, e)

-- nodes that left tell none
told_left : (ns : List ℕ) (ls : List Line) → bytes_told (map Left ns ++ ls) ≡ bytes_told ls
told_left [] ls = refl
told_left (n ∷ ns) ls = told_left ns ls

none_left : (ns : List ℕ) → bytes_told (map Left ns) ≡ 0
none_left [] = refl
none_left (n ∷ ns) = none_left ns

-- so does a token
none_fed : (plan : PlanTree) (t : Said) (at : Option Node) (P Q : Tree) → bytes_told (feed_line plan t at P Q) ≡ 0
none_fed plan (Start name) None P Q = refl
none_fed plan (Chars b) None P Q = refl
none_fed plan End None P Q = refl
none_fed plan (Start name) (Some p) P Q = refl
none_fed plan (Chars b) (Some p) P Q = refl
none_fed plan End (Some p) P Q = refl

pub told_fed : (plan : PlanTree) (t : Said) (P : Tree) (A : List Action) → bytes_told (fed_lines plan t P A) ≡ 0
told_fed plan t P A =
    let gone = departed (held plan P A ++ drop (length P.nodes) (grow t P).nodes) (held plan (grow t P) A) in
    told_behind (feed_line plan t P.at P (grow t P)) (map Left gone) (none_fed plan t P.at P (grow t P)) ∙ none_left gone

-- ---- actions

told_actions : (plan : PlanTree) (P : Tree) (A acts : List Action) → bytes_told (act_lines plan P A acts) ≡ length (flat_map bytes_of acts)
told_actions plan P A [] = refl
told_actions plan P A (Wrote b ∷ acts) =
    let B = A ++ Wrote b ∷ [] in
    ap (λ (n : ℕ). length b + n) (told_left (departed (held plan P A) (held plan P B)) (act_lines plan P B acts) ∙ told_actions plan P B acts) ∙ sym (length-append b (flat_map bytes_of acts))
told_actions plan P A (Offed o m ∷ acts) =
    let B = A ++ Offed o m ∷ [] in
    told_left (departed (held plan P A) (held plan P B)) (act_lines plan P B acts) ∙ told_actions plan P B acts

-- those from the first k to the first j tell what they write
pub told_acts : (plan : PlanTree) (P : Tree) (k j : ℕ) (more : List ℕ) → k ≤ j → bytes_at plan P j ≡ bytes_at plan P k ++ more → bytes_told (lines_to plan P k j) ≤ length more
told_acts plan P k j more l is =
    let first : bytes_told (lines_to plan P 0 k) ≡ length (bytes_at plan P k) = told_actions plan P (so_far plan P 0) (so_far plan P k) in
    let both : bytes_told (lines_to plan P 0 j) ≡ length (bytes_at plan P j) = told_actions plan P (so_far plan P 0) (so_far plan P j) in
    let split : bytes_told (lines_to plan P 0 j) ≡ bytes_told (lines_to plan P 0 k) + bytes_told (lines_to plan P k j)
    = ap bytes_told (lines_split plan P 0 k j (omega arith) l) ∙ told_append (lines_to plan P 0 k) (lines_to plan P k j) in
    told_least (bytes_told (lines_to plan P k j)) (bytes_told (lines_to plan P 0 k)) (bytes_told (lines_to plan P 0 j)) (length (bytes_at plan P k)) (length (bytes_at plan P j)) (length more)
    (told_second (bytes_told (lines_to plan P k j)) (bytes_told (lines_to plan P 0 k)) (bytes_told (lines_to plan P 0 j)) split) (sym first) (sym both) (ap length is ∙ length-append (bytes_at plan P k) more)

-- ---- tokens, with every action that is possible behind each

-- the actions over a longer tree begin with those over the shorter one
acts_before : (plan : PlanTree) (P Q : Tree) → Before (run plan.body env0 P) (run plan.body env0 Q) → (rest : List Action) × (actions plan Q ≡ actions plan P ++ rest)
acts_before plan P Q (Same e) = ([], ap (λ (z : Out). z.acts) (sym e) ∙ sym (append-nil (actions plan P)))
acts_before plan P Q (More f r e) = (r, e)

module _ (plan : PlanTree) where
  -- how many bytes the run over the tree writes
  abbrev size : Tree → ℕ
  size P = length (flat_map bytes_of (actions plan P))

  size_is : (P : Tree) → length (bytes_at plan P (all_of plan P)) ≡ size P
  size_is P = ap (λ (z : List Action). length (flat_map bytes_of z)) (all_is plan P)

  -- one token
  told_next : (t : Said) (P : Tree) → Grown P → In Root P.nodes → bytes_told (feed_lines plan t P (grow t P) (actions plan P)) + size P ≡ size (grow t P)
  told_next t P w i =
      let Q = grow t P in
      let A = actions plan P in
      let r = acts_before plan P Q (run_grows_all (t ∷ []) P w plan.body env0 (root_bound P w i)) in
      let feed = feed_line plan t P.at P Q in
      let gone = departed (held plan P A ++ drop (length P.nodes) Q.nodes) (held plan Q A) in
      let acts = act_lines plan Q A (drop (length A) (actions plan Q)) in
      let rest : drop (length A) (actions plan Q) ≡ r.0 = ap (drop (length A)) r.1 ∙ drop-append_seam A r.0 in
      let told : bytes_told (feed ++ (map Left gone ++ acts)) ≡ length (flat_map bytes_of r.0)
      = told_behind feed (map Left gone ++ acts) (none_fed plan t P.at P Q) ∙ (told_left gone acts ∙ (told_actions plan Q A (drop (length A) (actions plan Q)) ∙ ap (λ (z : List Action). length (flat_map bytes_of z)) rest)) in
      let whole : size Q ≡ size P + length (flat_map bytes_of r.0)
      = ap (λ (z : List Action). length (flat_map bytes_of z)) r.1 ∙ (ap length (flat_map-append bytes_of A r.0) ∙ length-append (flat_map bytes_of A) (flat_map bytes_of r.0)) in
      told_rest (bytes_told (feed ++ (map Left gone ++ acts))) (size P) (size Q) (length (flat_map bytes_of r.0)) told whole

  -- all of them
  told_tokens : (us : List Said) (P : Tree) → Grown P → In Root P.nodes → bytes_told (demand plan us P) + size P ≡ size (grow_all us P)
  told_tokens [] P w i = none_more (size P)
  told_tokens (t ∷ us) P w i =
      let Q = grow t P in
      let here = feed_lines plan t P Q (actions plan P) in
      told_sum (bytes_told (demand plan (t ∷ us) P)) (bytes_told here) (bytes_told (demand plan us Q)) (size P) (size Q) (size (grow_all us Q)) (told_append here (demand plan us Q)) (told_next t P w i)
      (told_tokens us Q (Grown-grow t P w) (nodes_stay (t ∷ []) P Root i))

pub told_demand : (plan : PlanTree) (P : Tree) (us : List Said) (more : List ℕ) → Leads opening P → Leads P (grow_all us P) → bytes_at plan (grow_all us P) (all_of plan (grow_all us P)) ≡ bytes_at plan P (all_of plan P) ++ more → bytes_told (demand plan us P) ≤ length more
told_demand plan P us more l m is =
    let Q = grow_all us P in
    told_least (bytes_told (demand plan us P)) (size plan P) (size plan Q) (length (bytes_at plan P (all_of plan P))) (length (bytes_at plan Q (all_of plan Q))) (length more) (told_tokens plan us P (grown_from P l) (root_from P l)) (size_is plan P)
    (size_is plan Q) (ap length is ∙ length-append (bytes_at plan P (all_of plan P)) more)

-- the trace of tokens tells no more than what is written over them, whatever tokens they are
pub told_over : (plan : PlanTree) (ts : List Said) → bytes_told (trace_lines plan ts) ≤ length (output_text plan ts)
told_over plan ts =
    let first = act_lines plan opening [] (actions plan opening) in
    let later = demand plan ts opening in
    told_all (bytes_told (trace_lines plan ts)) (bytes_told first) (bytes_told later) (size plan opening) (size plan (seen_tree ts)) (length (output_text plan ts)) (told_append first later) (told_actions plan opening [] (actions plan opening))
    (told_tokens plan ts opening Grown-opening (root_in [])) (size_is plan (seen_tree ts))
