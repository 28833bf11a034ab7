-- What is kept of the roles of whole subtrees, computed.
use Rattle.std.specs.Prelude.{◌≡◌, ℕ, zero, suc, List, [], ◌∷◌, map, length, sum, refl, codes, take}
use Rattle.gcx_model.specs.Tree.{TreeToken, Start, End}
use Rattle.gcx_model.specs.Query.{ExprTree, QueryPath}
use Rattle.gcx_model.specs.Placed.{plan_of}
use Rattle.gcx_model.specs.Points.{actions}
use Rattle.gcx_model.specs.Normal.{normal}
use Rattle.gcx_model.specs.Held.{roles_live, held}
use Rattle.gcx_model.specs.Past.{Past}
use Rattle.placed_laws.proofs.Rows.Words.{child, from_root, tree, query_children, tokens_children}
use Rattle.spread_laws.specs.Tops.{roles_kept, entries_of}

-- behind these tokens, with all actions taken
abbrev state : List ExprTree → List TreeToken → Past
state q ts = record { plan = plan_of (normal q); tree = tree ts; acts = actions (plan_of (normal q)) (tree ts); fed = 0 }

abbrev live_entries : Past → ℕ
live_entries past = sum (map (λ n. length (roles_live past.plan past.tree past.acts n)) (held past.plan past.tree past.acts))

-- a loop that copies each b of /a/b, up to the first text: the text has the role of the copy from its b
abbrev first_text : Past
first_text = state query_children (take 3 tokens_children)

text_kept : map (roles_kept first_text) (held first_text.plan first_text.tree first_text.acts) ≡ (0 ∷ []) ∷ (1 ∷ []) ∷ (2 ∷ 3 ∷ []) ∷ [] ∷ []
text_kept = refl

text_entries : entries_of first_text ≡ 4
text_entries = refl

text_live : live_entries first_text ≡ 5
text_live = refl

-- a copy of /a, where all below it has the role of the copy from it
abbrev twigs : ℕ → List TreeToken
twigs zero = []
twigs (suc k) = Start (codes "b") ∷ End ∷ twigs k

abbrev copied : ℕ → Past
copied k = state (QueryPath (from_root (child (codes "a") ∷ [])) ∷ []) (Start (codes "a") ∷ twigs k)

copied_entries : entries_of (copied 100) ≡ 3
copied_entries = refl

copied_live : live_entries (copied 100) ≡ 103
copied_live = refl

copied_held : length (held (copied 100).plan (copied 100).tree (copied 100).acts) ≡ 102
copied_held = refl
