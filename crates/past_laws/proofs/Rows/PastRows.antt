-- The rows of a buffer and the statements that wait, where statements are carried out at an open node, computed.
use Rattle.std.specs.Prelude.{◌≡◌, ℕ, Bool, true, List, [], ◌∷◌, Option, Some, None, refl, codes, take}
use Rattle.gcx_base.specs.declared.kind.Kind.{Kind}
use Rattle.gcx_base.specs.declared.kind.Kind.TheVariants.{Document, Element}
use Rattle.gcx_model.specs.Tree.{TreeToken, Start, Chars, End}
use Rattle.gcx_model.specs.Core.{PlanTree, RoleTarget, First, Whole}
use Rattle.gcx_model.specs.Placed.{plan_of}
use Rattle.gcx_model.specs.Points.{so_far}
use Rattle.gcx_model.specs.Normal.{normal}
use Rattle.gcx_model.specs.Past.{Past, past_fed, Awaited, waiting_offs, HeldRow, rows_of}
use Rattle.placed_laws.proofs.Rows.Words.{child, tree, query_exists, query_compared, tokens_compared, tokens_ahead}

abbrev row : ℕ → Option ℕ → Kind → Bool → List ℕ → List ℕ → HeldRow
row serial parent kind is_open roles signed = record { serial = serial; parent = parent; kind = kind; is_open = is_open; roles = roles; signed = signed }

-- the statement of role 3, of the variable 2 over its children k, at this level
abbrev waits_at : ℕ → RoleTarget → Awaited
waits_at level kind = record { level = level; off = record { base = 2; own = 2; role = 3; rel = []; tail = child (codes "k") ∷ []; kind = kind } }

-- behind this many tokens, with so many actions taken, none of them before the last token
abbrev state : PlanTree → List TreeToken → (tokens acts : ℕ) → Past
state plan ts tokens acts = record { plan = plan; tree = tree (take tokens ts); acts = so_far plan (tree (take tokens ts)) acts; fed = 0 }

-- the document node and the r stay as they are
abbrev with_top : List HeldRow → List HeldRow
with_top rows = row 0 None Document true (0 ∷ []) [] ∷ row 1 (Some 0) (Element (codes "r")) true (1 ∷ []) [] ∷ rows

-- <r><p><k> with no action: the k has the role of the exists
abbrev exists_at : ℕ → Past
exists_at acts = state (plan_of (normal query_exists)) tokens_ahead 3 acts

exists_known : rows_of (exists_at 0) ≡
    with_top (row 2 (Some 1) (Element (codes "p")) true (2 ∷ []) [] ∷ row 3 (Some 2) (Element (codes "k")) true (3 ∷ []) [] ∷ [])
exists_known = refl

exists_known_waiting : waiting_offs (exists_at 0) ≡ []
exists_known_waiting = refl

-- two writes and the statement of the exists, at the open p
exists_signed : rows_of (exists_at 3) ≡
    with_top (row 2 (Some 1) (Element (codes "p")) true (2 ∷ []) (3 ∷ []) ∷ row 3 (Some 2) (Element (codes "k")) true [] [] ∷ [])
exists_signed = refl

exists_signed_waiting : waiting_offs (exists_at 3) ≡ waits_at 2 First ∷ []
exists_signed_waiting = refl

-- and that of the p itself, which reaches no other node and so doesn't wait
exists_over : rows_of (exists_at 4) ≡
    with_top (row 2 (Some 1) (Element (codes "p")) true [] (2 ∷ 3 ∷ []) ∷ row 3 (Some 2) (Element (codes "k")) true [] [] ∷ [])
exists_over = refl

exists_over_waiting : waiting_offs (exists_at 4) ≡ waits_at 2 First ∷ []
exists_over_waiting = refl

-- the end of the k: it leaves, and nothing waits
exists_closed : rows_of (past_fed End (exists_at 4)) ≡
    with_top (row 2 (Some 1) (Element (codes "p")) true [] (2 ∷ 3 ∷ []) ∷ [])
exists_closed = refl

exists_closed_waiting : waiting_offs (past_fed End (exists_at 4)) ≡ []
exists_closed_waiting = refl

-- <r><p><k>1</k> with all four actions: what the comparison read has left
abbrev compared : Past
compared = state (plan_of (normal query_compared)) tokens_compared 5 4

compared_signed : rows_of compared ≡
    with_top (row 2 (Some 1) (Element (codes "p")) true [] (2 ∷ 3 ∷ []) ∷ [])
compared_signed = refl

compared_waiting : waiting_offs compared ≡ waits_at 2 Whole ∷ []
compared_waiting = refl

-- another k comes: its role is taken from it at once, so it is there only while it is open, and its text isn't
compared_next : rows_of (past_fed (Start (codes "k")) compared) ≡
    with_top (row 2 (Some 1) (Element (codes "p")) true [] (2 ∷ 3 ∷ []) ∷ row 5 (Some 2) (Element (codes "k")) true [] [] ∷ [])
compared_next = refl

compared_text : rows_of (past_fed (Chars (codes "2")) (past_fed (Start (codes "k")) compared)) ≡ rows_of (past_fed (Start (codes "k")) compared)
compared_text = refl
