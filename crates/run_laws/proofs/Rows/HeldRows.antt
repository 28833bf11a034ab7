-- The held nodes behind each event of demand runs, and in states of other runs, computed.
use Rattle.std.specs.Prelude.{◌≡◌, ℕ, List, [], ◌∷◌, ◌++◌, refl, codes, flat_map, map, length, take, drop}
use Rattle.gcx_model.specs.Tree.{TreeToken, Tree, serial_of, opening, grow}
use Rattle.gcx_model.specs.Core.{PlanTree}
use Rattle.gcx_model.specs.Run.{Action, bytes_of}
use Rattle.gcx_model.specs.Placed.{plan_of}
use Rattle.gcx_model.specs.Held.{held, roles_given, sum_given, sum_taken}
use Rattle.gcx_model.specs.Points.{actions, so_far}
use Rattle.gcx_model.specs.Normal.{normal}
use Rattle.placed_laws.proofs.Rows.Words.{tree, query_children, tokens_children, query_exists, element, document, query_nested, tokens_ahead}
use Rattle.run_laws.proofs.Rows.TraceRows.{tokens_nested}

abbrev serials : PlanTree → Tree → List Action → List ℕ
serials plan P A = map serial_of (held plan P A)

abbrev behind_acts : PlanTree → Tree → (A acts : List Action) → List (List ℕ)
behind_acts plan P A [] = []
behind_acts plan P A (a ∷ acts) = serials plan P (A ++ a ∷ []) ∷ behind_acts plan P (A ++ a ∷ []) acts

abbrev behind_feeds : PlanTree → List TreeToken → Tree → List (List ℕ)
behind_feeds plan [] P = []
behind_feeds plan (t ∷ ts) P = serials plan (grow t P) (actions plan P) ∷ (behind_acts plan (grow t P) (actions plan P) (drop (length (actions plan P)) (actions plan (grow t P))) ++ behind_feeds plan ts (grow t P))

-- in the opening state, and behind each token and action of the demand run
abbrev behind_events : PlanTree → List TreeToken → List (List ℕ)
behind_events plan ts = serials plan opening [] ∷ (behind_acts plan opening [] (actions plan opening) ++ behind_feeds plan ts opening)

abbrev pub plan_children : PlanTree
plan_children = plan_of (normal query_children)

held_children : behind_events plan_children tokens_children ≡
    (0 ∷ []) ∷ (0 ∷ []) ∷ (0 ∷ 1 ∷ []) ∷ (0 ∷ 1 ∷ 2 ∷ []) ∷ (0 ∷ 1 ∷ 2 ∷ []) ∷ (0 ∷ 1 ∷ 2 ∷ 3 ∷ []) ∷ (0 ∷ 1 ∷ 2 ∷ 3 ∷ []) ∷ (0 ∷ 1 ∷ 2 ∷ 3 ∷ []) ∷ (0 ∷ 1 ∷ 2 ∷ 3 ∷ []) ∷ (0 ∷ 1 ∷ 2 ∷ []) ∷ (0 ∷ 1 ∷ [])
    ∷ (0 ∷ 1 ∷ 4 ∷ []) ∷ (0 ∷ 1 ∷ []) ∷ (0 ∷ 1 ∷ 5 ∷ []) ∷ (0 ∷ 1 ∷ 5 ∷ []) ∷ (0 ∷ 1 ∷ 5 ∷ 6 ∷ []) ∷ (0 ∷ 1 ∷ 5 ∷ 6 ∷ []) ∷ (0 ∷ 1 ∷ 5 ∷ 6 ∷ []) ∷ (0 ∷ 1 ∷ 5 ∷ 6 ∷ []) ∷ (0 ∷ 1 ∷ 5 ∷ []) ∷ (0 ∷ 1 ∷ [])
    ∷ (0 ∷ 1 ∷ []) ∷ (0 ∷ []) ∷ (0 ∷ []) ∷ (0 ∷ []) ∷ [] ∷ []
held_children = refl

abbrev plan_exists : PlanTree
plan_exists = plan_of (normal query_exists)

held_ahead : behind_events plan_exists tokens_ahead ≡
    (0 ∷ []) ∷ (0 ∷ 1 ∷ []) ∷ (0 ∷ 1 ∷ 2 ∷ []) ∷ (0 ∷ 1 ∷ 2 ∷ 3 ∷ []) ∷ (0 ∷ 1 ∷ 2 ∷ 3 ∷ []) ∷ (0 ∷ 1 ∷ 2 ∷ 3 ∷ []) ∷ (0 ∷ 1 ∷ 2 ∷ 3 ∷ []) ∷ (0 ∷ 1 ∷ 2 ∷ 3 ∷ []) ∷ (0 ∷ 1 ∷ 2 ∷ []) ∷ (0 ∷ 1 ∷ [])
    ∷ (0 ∷ 1 ∷ []) ∷ (0 ∷ []) ∷ (0 ∷ []) ∷ [] ∷ []
held_ahead = refl

-- states with this query and document: all tokens and no action
all_fed : serials plan_children (tree tokens_children) [] ≡ 0 ∷ 1 ∷ 2 ∷ 3 ∷ 5 ∷ 6 ∷ []
all_fed = refl

all_fed_nodes : length (tree tokens_children).nodes ≡ 7
all_fed_nodes = refl

all_fed_given : sum_given plan_children (tree tokens_children) ≡ 8
all_fed_given = refl

all_fed_taken : sum_taken plan_children (tree tokens_children) [] ≡ 0
all_fed_taken = refl

-- all tokens and all 14 actions
abbrev all_acts : List Action
all_acts = so_far plan_children (tree tokens_children) 14

all_acts_number : length (actions plan_children (tree tokens_children)) ≡ 14
all_acts_number = refl

all_acted : serials plan_children (tree tokens_children) all_acts ≡ []
all_acted = refl

all_acted_bytes : flat_map bytes_of all_acts ≡ codes "<r><b>1</b><b>2</b></r>"
all_acted_bytes = refl

all_acted_taken : sum_taken plan_children (tree tokens_children) all_acts ≡ 8
all_acted_taken = refl

-- five tokens and five actions: the fifth takes role 3 from the nodes 2 and 3
abbrev five_fed : Tree
five_fed = tree (take 5 tokens_children)

abbrev five_acts : List Action
five_acts = so_far plan_children five_fed 5

five_acted : serials plan_children five_fed five_acts ≡ 0 ∷ 1 ∷ 2 ∷ 4 ∷ []
five_acted = refl

five_acted_bytes : flat_map bytes_of five_acts ≡ codes "<r><b>1</b>"
five_acted_bytes = refl

five_acted_nodes : length five_fed.nodes ≡ 5
five_acted_nodes = refl

five_acted_given : sum_given plan_children five_fed ≡ 5
five_acted_given = refl

five_acted_taken : sum_taken plan_children five_fed five_acts ≡ 2
five_acted_taken = refl

-- the roles given to each node of that document
given_children : map (roles_given plan_children (tree tokens_children)) (tree tokens_children).nodes ≡ (0 ∷ []) ∷ (1 ∷ []) ∷ (2 ∷ 3 ∷ []) ∷ (3 ∷ []) ∷ [] ∷ (2 ∷ 3 ∷ []) ∷ (3 ∷ []) ∷ []
given_children = refl

-- both of two nested elements have the role of the outer loop, the one inside that of the inner loop
given_nested : map (roles_given (plan_of (normal query_nested)) (tree tokens_nested)) (tree tokens_nested).nodes ≡ (0 ∷ []) ∷ (1 ∷ []) ∷ (1 ∷ []) ∷ (2 ∷ []) ∷ []
given_nested = refl

-- of two matches of an exists the first has its role
abbrev tokens_two : List TreeToken
tokens_two = document (element (codes "r") (element (codes "p") (element (codes "k") [] ++ element (codes "k") [])))

given_exists : map (roles_given plan_exists (tree tokens_two)) (tree tokens_two).nodes ≡ (0 ∷ []) ∷ (1 ∷ []) ∷ (2 ∷ []) ∷ (3 ∷ []) ∷ [] ∷ []
given_exists = refl
