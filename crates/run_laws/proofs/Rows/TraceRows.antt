-- Traces and peaks, computed.
use Rattle.std.specs.Prelude.{◌≡◌, ℕ, List, [], ◌∷◌, ◌++◌, refl, codes, flat_map, length}
use Rattle.std.specs.Fmt.{digits}
use Rattle.gcx_base.specs.declared.steps.Axis.TheVariants.{Descendant}
use Rattle.gcx_base.specs.declared.steps.Test.TheVariants.{AnyText}
use Rattle.gcx_model.specs.Tree.{TreeToken, opening}
use Rattle.gcx_model.specs.Query.{ExprTree, Empty}
use Rattle.gcx_model.specs.Core.{PlanTree}
use Rattle.gcx_model.specs.Placed.{plan_of}
use Rattle.gcx_model.specs.Held.{sum_given, sum_taken}
use Rattle.gcx_model.specs.Growth.{tokens_of}
use Rattle.gcx_model.specs.Points.{actions}
use Rattle.gcx_model.specs.Normal.{normal}
use Rattle.gcx_model.specs.Demand.{trace_text, peak}
use Rattle.placed_laws.proofs.Rows.Words.{from_root, for_in, leaf, element, document, tree, query_children, tokens_children, query_nested, query_exists, query_join, tokens_join, query_moved, tokens_moved, query_compared, tokens_compared, tokens_ahead}

-- each line with its end
abbrev lines : List (List ℕ) → List ℕ
lines ls = flat_map (λ l. l ++ 10 ∷ []) ls

-- the tokens of a tree are found again
tokens_found : tokens_of (tree tokens_join) ≡ tokens_join
tokens_found = refl

trace_children : trace_text query_children (tree tokens_children) ≡ lines (
    codes "+ 0 / 0" ∷ codes "w 3" ∷ codes "+ 1 a 1" ∷ codes "+ 2 b 2 3" ∷ codes "w 3" ∷ codes "+ 3 # 3" ∷ codes "w 1" ∷ codes "- 2" ∷ codes "w 4" ∷ codes "o 2 3" ∷ codes "x 3" ∷ codes "o 2 2" ∷ codes "x 2"
    ∷ codes "+ 4 c" ∷ codes "- 4" ∷ codes "x 4" ∷ codes "+ 5 b 2 3" ∷ codes "w 3" ∷ codes "+ 6 # 3" ∷ codes "w 1" ∷ codes "- 5" ∷ codes "w 4" ∷ codes "o 5 3" ∷ codes "x 6" ∷ codes "o 5 2" ∷ codes "x 5"
    ∷ codes "- 1" ∷ codes "o 1 1" ∷ codes "x 1" ∷ codes "- 0" ∷ codes "w 4" ∷ codes "o 0 0" ∷ codes "x 0" ∷ [])
unfolding digits
trace_children = refl

trace_ahead : trace_text query_exists (tree tokens_ahead) ≡ lines (
    codes "+ 0 / 0" ∷ codes "+ 1 r 1" ∷ codes "+ 2 p 2" ∷ codes "+ 3 k 3" ∷ codes "w 3" ∷ codes "w 4" ∷ codes "o 2 3" ∷ codes "o 2 2" ∷ codes "- 3" ∷ codes "x 3" ∷ codes "- 2" ∷ codes "x 2"
    ∷ codes "- 1" ∷ codes "o 1 1" ∷ codes "x 1" ∷ codes "- 0" ∷ codes "o 0 0" ∷ codes "x 0" ∷ [])
unfolding digits
trace_ahead = refl

-- a text that is given a role, which is taken at once
trace_compared : trace_text query_compared (tree tokens_compared) ≡ lines (
    codes "+ 0 / 0" ∷ codes "+ 1 r 1" ∷ codes "+ 2 p 2" ∷ codes "+ 3 k 3" ∷ codes "+ 4 # 3" ∷ codes "- 3" ∷ codes "w 3" ∷ codes "w 4" ∷ codes "o 2 3" ∷ codes "x 4" ∷ codes "x 3" ∷ codes "o 2 2"
    ∷ codes "+ 5 k 3" ∷ codes "+ 6 # 3" ∷ codes "x 6" ∷ codes "- 5" ∷ codes "x 5" ∷ codes "+ 7 k 3" ∷ codes "+ 8 # 3" ∷ codes "x 8" ∷ codes "- 7" ∷ codes "x 7"
    ∷ codes "- 2" ∷ codes "x 2" ∷ codes "- 1" ∷ codes "o 1 1" ∷ codes "x 1" ∷ codes "- 0" ∷ codes "o 0 0" ∷ codes "x 0" ∷ [])
unfolding digits
trace_compared = refl

-- a node that two bases reach keeps its role until both are signed, and so do the nodes above it
abbrev pub tokens_nested : List TreeToken
tokens_nested = document (element (codes "a") (element (codes "a") (element (codes "b") [])))

trace_nested : trace_text query_nested (tree tokens_nested) ≡ lines (
    codes "+ 0 / 0" ∷ codes "+ 1 a 1" ∷ codes "+ 2 a 1" ∷ codes "+ 3 b 2" ∷ codes "w 3" ∷ codes "w 4" ∷ codes "- 3" ∷ codes "- 2" ∷ codes "- 1" ∷ codes "o 1 2" ∷ codes "o 1 1"
    ∷ codes "w 3" ∷ codes "w 4" ∷ codes "o 2 2" ∷ codes "x 3" ∷ codes "o 2 1" ∷ codes "x 2" ∷ codes "x 1" ∷ codes "- 0" ∷ codes "o 0 0" ∷ codes "x 0" ∷ [])
unfolding digits
trace_nested = refl

peak_children : peak query_children (tree tokens_children) ≡ 4
peak_children = refl

peak_join : peak query_join (tree tokens_join) ≡ 11
peak_join = refl

peak_ahead : peak query_exists (tree tokens_ahead) ≡ 4
peak_ahead = refl

peak_compared : peak query_compared (tree tokens_compared) ≡ 5
peak_compared = refl

peak_moved : peak query_moved (tree tokens_moved) ≡ 6
peak_moved = refl

-- nodes, and roles given and taken, at the end
abbrev plan_children : PlanTree
plan_children = plan_of (normal query_children)

given_children : sum_given plan_children (tree tokens_children) ≡ 8
given_children = refl

taken_children : sum_taken plan_children (tree tokens_children) (actions plan_children (tree tokens_children)) ≡ 8
taken_children = refl

nodes_children : length (tree tokens_children).nodes ≡ 7
nodes_children = refl

abbrev plan_moved : PlanTree
plan_moved = plan_of (normal query_moved)

given_moved : sum_given plan_moved (tree tokens_moved) ≡ 10
given_moved = refl

taken_moved : sum_taken plan_moved (tree tokens_moved) (actions plan_moved (tree tokens_moved)) ≡ 10
taken_moved = refl

-- for $x in //text() return () on <a>t</a>: the text is held just behind its token, and leaves by the action behind that
abbrev query_text : List ExprTree
query_text = for_in (codes "x") (from_root (record { axis = Descendant; test = AnyText } ∷ [])) Empty ∷ []

abbrev tokens_text : List TreeToken
tokens_text = document (leaf (codes "a") (codes "t"))

trace_text_role : trace_text query_text (tree tokens_text) ≡ lines (
    codes "+ 0 / 0" ∷ codes "+ 1 a" ∷ codes "+ 2 # 1" ∷ codes "o 2 1" ∷ codes "x 2" ∷ codes "- 1" ∷ codes "x 1" ∷ codes "- 0" ∷ codes "o 0 0" ∷ codes "x 0" ∷ [])
unfolding digits
trace_text_role = refl

peak_text : peak query_text (tree tokens_text) ≡ 3
peak_text = refl

-- before the first token
peak_opening : peak query_text opening ≡ 1
peak_opening = refl
