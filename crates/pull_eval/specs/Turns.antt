-- What loops go by whose bodies do nothing where an equality is false. Private functions alone speak of it, but for the position.
use Rattle.std.specs.Prelude.{◌≡◌, ◌<◌, ◌≤◌, ℕ, Bool, true, List, [], ◌∷◌, map, Option, Some, None}
use Rattle.std.specs.Ordering.{nat_cmp, is_lt}
use Rattle.std.specs.Cmp.Lexicographic.{slice_cmp}
use Rattle.std.specs.List.Sorted.{IsSortedBy, IsNonDecreasingBy}
use Rattle.gcx_base.specs.declared.ids.Serial.{Serial}
use Rattle.gcx_base.specs.declared.ids.VarId.{VarId}
use Rattle.gcx_base.specs.declared.steps.Step.{Step}
use Rattle.gcx_model.specs.Tree.{Node, serial_of, Tree, opening, is_closed}
use Rattle.gcx_model.specs.Paths.{matches}
use Rattle.gcx_model.specs.Members.{In, Once}
use Rattle.gcx_model.specs.Growth.{Leads}
use Rattle.buf_tree.specs.Shape.{Cell}
use Rattle.pass_laws.specs.ValueLists.{IsValueAt}
use Rattle.cond_eval.specs.Asking.{PlacedAt}
use Rattle.cond_eval.specs.Comparing.{KeepsMatches}
use Rattle.cond_eval.specs.Reads.{NodeAt}
use Rattle.cond_eval.specs.declared.sets.Member.{Member}
use Rattle.pull_eval.specs.declared.turns.Entry.{Entry}
use Rattle.pull_eval.specs.declared.turns.Turns.{Turns}
use Rattle.pull_eval.specs.declared.turns.Leap.{Leap}
use Rattle.pull_eval.specs.declared.turns.Leap.TheVariants.{Stay, To, Over}

-- the match's; its row, where there is one, stands at this place
abbrev pub IsHit : List Cell → Member → Node → Type 0
IsHit rows h j = (h.serial ≡ serial_of j) × PlacedAt rows (serial_of j) h.place

-- the matches of the loop's step from the node
abbrev pub turns_at : Tree → Turns → Node → List Node
turns_at P t a = matches P (serial_of a) (t.step.now ∷ [])

-- the first one's
abbrev pub IsFirstHit : List Cell → List Node → Option Member → Type 0
IsFirstHit rows ms None = ms ≡ []
IsFirstHit rows ms (Some h) = (m : Node) × (rest : List Node) × (ms ≡ m ∷ rest) × IsHit rows h m

-- v is a value of the loop's operand at the match, of the other operand at its node
abbrev pub IsOwnValue : Tree → Turns → Node → List ℕ → Type 0
IsOwnValue P t j v = IsValueAt P j t.own.now v

abbrev pub IsOtherValue : Tree → Turns → Node → List ℕ → Type 0
IsOtherValue P t b v = IsValueAt P b t.other.now v

-- the entries are these matches, each with each value of the steps at it
pub record AreListed (rows : List Cell) (P : Tree) (steps : List Step) (ms : List Node) (es : List Entry) : Type 0 where
  pub each : (j : Node) → In j ms → (v : List ℕ) → IsValueAt P j steps v → (e : Entry) × In e es × (e.text ≡ v) × IsHit rows e.hit j
  pub only : (e : Entry) → In e es → (j : Node) × In j ms × IsHit rows e.hit j × IsValueAt P j steps e.text

-- v stands before w, by bytes
abbrev pub is_text_before : List ℕ → List ℕ → Bool
is_text_before v w = is_lt (slice_cmp nat_cmp v w)

-- the entries stand by their texts
abbrev pub AreByText : List Entry → Type 0
AreByText es = IsSortedBy (λ (one other : Entry). is_text_before one.text other.text) es

-- the matches stand by their serials
abbrev pub AreBySerial : List Member → Type 0
AreBySerial hs = IsNonDecreasingBy (λ (h : Member). h.serial) hs

-- of the matches from the node, which is closed, the first one, and each value of the operand at each
pub record Lists (rows : List Cell) (P : Tree) (t : Turns) (a : Node) : Type 0 where
  pub grown : Leads opening P
  pub among : In a P.nodes
  pub closed : is_closed P a ≡ true
  pub first : IsFirstHit rows (turns_at P t a) t.first
  pub listed : AreListed rows P t.own.now (turns_at P t a) t.entries.items
  pub by_text : AreByText t.entries.items

-- some value is one of the loop's operand at the match and one of the other operand at the node b
abbrev pub Meets : Tree → Turns → (b j : Node) → Type 0
Meets P t b j = (v : List ℕ) × IsOwnValue P t j v × IsOtherValue P t b v

-- those of the matches at which there is a value of the other operand at the node, which is closed
pub record Chosen (rows : List Cell) (P : Tree) (t : Turns) (a b : Node) : Type 0 where
  pub among : In b P.nodes
  pub closed : is_closed P b ≡ true
  pub each : (j : Node) → In j (turns_at P t a) → Meets P t b j → (h : Member) × In h t.hits.items × IsHit rows h j
  pub only : (h : Member) → In h t.hits.items → (j : Node) × In j (turns_at P t a) × IsHit rows h j × Meets P t b j
  pub by_serial : AreBySerial t.hits.items

-- What was looked at stands for the tree.
pub record IsTurns (rows : List Cell) (P : Tree) (t : Turns) : Type 0 where
  pub lists : (s : Serial) → t.of ≡ Some s → (a : Node) × (serial_of a ≡ s.0) × Lists rows P t a
  pub chosen : (s o : Serial) → t.of ≡ Some s → t.outer ≡ Some o → (a b : Node) × (serial_of a ≡ s.0) × (serial_of b ≡ o.0) × Lists rows P t a × Chosen rows P t a b

-- the loop's variable
abbrev pub loop_var : Turns → VarId
loop_var t = t.var

-- each of these does, and no two are of one variable
pub record TurnsStand (rows : List Cell) (P : Tree) (ts : List Turns) : Type 0 where
  pub each : (t : Turns) → In t ts → IsTurns rows P t
  pub once : Once (map loop_var ts)

-- the matches of the loop's step are kept, each with the whole of its operand's matches
abbrev pub KeepsTurns : Tree → (Node → Bool) → Turns → Node → Type 0
KeepsTurns P keep t a = (j : Node) → In j (turns_at P t a) → (keep j ≡ true) × KeepsMatches P keep j t.own.now

-- From which match on the loop goes on: `passed` holds of those from the serial `from` up to there.
abbrev pub Leaps : List Cell → (ms : List Node) → (passed : Node → Type 0) → (from : ℕ) → Leap → Type 0
Leaps rows ms passed from Stay = Unit {0}
Leaps rows ms passed from (To p) = (m : Node) × In m ms × (from ≤ serial_of m) × PlacedAt rows (serial_of m) p.0
    × ((j : Node) → In j ms → from ≤ serial_of j → serial_of j < serial_of m → passed j)
Leaps rows ms passed from Over = (j : Node) → In j ms → from ≤ serial_of j → passed j

-- the matches that were looked at are those from the node of the row at the place, if what it needs is kept
abbrev pub TurnsToNode : List Cell → (before after : Turns) → (place : ℕ) → Type 0
TurnsToNode rows t u p = (P : Tree) (keep : Node → Bool) (a : Node) → NodeAt rows P keep p a → is_closed P a ≡ true → KeepsTurns P keep t a
    → IsTurns rows P t → IsTurns rows P u × ((s : Serial) × (u.of ≡ Some s) × (s.0 ≡ serial_of a))

-- those that were chosen are those of the node of the row at the place
abbrev pub Chooses : List Cell → (before after : Turns) → (place : ℕ) → Serial → Type 0
Chooses rows t u p o = (P : Tree) (keep : Node → Bool) (b : Node) → NodeAt rows P keep p b → is_closed P b ≡ true → serial_of b ≡ o.0 → KeepsMatches P keep b t.other.now
    → IsTurns rows P t → IsTurns rows P u × (u.of ≡ t.of) × (u.outer ≡ Some o)
