-- What each call on an equality tells. Private functions alone speak of it, but for the names.
use Rattle.std.specs.Prelude.{◌≡◌, ◌⊎◌, ℕ, Bool, true, false, not, List, map, Option, Some, None, slice_get}
use Rattle.gcx_base.specs.declared.ids.Serial.{Serial}
use Rattle.gcx_base.specs.declared.rel.Rel.{Rel}
use Rattle.gcx_base.specs.declared.rel.Rel.TheVariants.{Eq}
use Rattle.gcx_base.specs.declared.steps.Step.{Step}
use Rattle.gcx_model.specs.Tree.{Node, serial_of, Tree, is_closed}
use Rattle.gcx_model.specs.Paths.{matches, value}
use Rattle.gcx_model.specs.Core.{CondTree, OperandTree}
use Rattle.gcx_model.specs.Truth.{Env}
use Rattle.gcx_model.specs.CondView.{operand_tree}
use Rattle.gcx_model.specs.declared.cond.Operand.{Operand}
use Rattle.gcx_model.specs.declared.truth.Truth.{Truth}
use Rattle.pass_laws.specs.ValueLists.{IsListOf, IsFoundIn}
use Rattle.buf_tree.specs.Shape.{Cell}
use Rattle.buf_tree.specs.View.{View}
use Rattle.cond_eval.specs.Bindings.{Bindings}
use Rattle.cond_eval.specs.Asking.{AnswersOver, Asked, Over}
use Rattle.cond_eval.specs.Reads.{NodeAt}
use Rattle.cond_eval.specs.Comparing.{comparison, KeepsMatches, Readable}
use Rattle.cond_eval.specs.declared.sets.Member.{Member}
use Rattle.cond_memo.specs.Marks.{AreMarks}
use Rattle.cond_memo.specs.Taking.{AsksPath, TookUpto}
use Rattle.cond_memo.specs.declared.taken.Taken.{Taken}
use Rattle.join_index.specs.declared.equality.Side.{Side}
use Rattle.join_index.specs.declared.equality.Listed.{Listed}
use Rattle.join_index.specs.declared.equality.Equality.{Equality}
use Rattle.join_index.specs.Equalities.{HasEquality, NothingKept, VariablesDiffer, path_of_side}
use Rattle.join_index.specs.Index.{IndexView, IsIndex, IsLooked, IsOuterClosed, NoneListed, ReachesEquality, TellsTruthOf, outer_of, same_serial, serial_kept}

-- the texts are the values of the members' nodes
abbrev pub AreValues : List Cell → List Member → List (List ℕ) → Type 0
AreValues rows ms vs = (P : Tree) (keep : Node → Bool) (ns : List Node) → Readable rows P keep ms ns → vs ≡ map (value P) ns

-- it is the equality of these two
abbrev pub IsOf : Equality → (left right : OperandTree) → Type 0
IsOf q l r = (path_of_side q.left ≡ l) × (path_of_side q.right ≡ r)

-- it is, of paths whose variables differ, and nothing is kept yet
abbrev pub IsMadeOf : Equality → (left right : OperandTree) → Type 0
IsMadeOf q l r = IsOf q l r × VariablesDiffer l r × NothingKept q

-- the one at this place of the list is
abbrev pub IsListedAt : List Equality → (i : ℕ) → (left right : OperandTree) → Type 0
IsListedAt qs i l r = (q : Equality) × (slice_get qs i ≡ Some q) × IsOf q l r

-- the list is that of the values at the node of the row at the place, where that is closed
abbrev pub ListsAt : List Cell → (p : ℕ) → List Step → (vs : List (List ℕ)) → Type 0
ListsAt rows p steps vs = (P : Tree) (keep : Node → Bool) (n : Node) → NodeAt rows P keep p n → KeepsMatches P keep n steps → is_closed P n ≡ true → IsListOf P steps (serial_of n) vs

-- The list of the node of the row at the place is kept; whether it was made.
pub record KeepsList (rows : List Cell) (p of : ℕ) (q r : Equality) (made : Bool) : Type 0 where
  pub left : r.left ≡ q.left
  pub right : r.right ≡ q.right
  pub list : Listed
  pub kept : r.list ≡ Some list
  pub serial : list.of.0 ≡ of
  pub made_so : made ≡ not (same_serial (serial_kept q) (Some of))
  pub told : (q.list ≡ Some list) ⊎ ListsAt rows p (outer_of q).steps list.values

-- The path stays. Which matches were looked up does too, or none was.
pub record KeepsSeen (q r : Equality) : Type 0 where
  pub steps : r.seen.steps ≡ q.seen.steps
  pub last : r.seen.last ≡ q.seen.last
  pub looked : (r ≡ q) ⊎ (r.seen.of ≡ None)

-- it is about the node of this serial: it was before, or none of its matches was taken
abbrev pub TurnsSeen : (before now : Taken) → Serial → Type 0
TurnsSeen k l of = ((l ≡ k) × (k.of ≡ Some of)) ⊎ (l ≡ record k { of = Some of; below = 0; waiting = None })

abbrev pub FoundIs : Tree → Node → List Step → (list : List (List ℕ)) → Bool → Type 0
FoundIs P n steps list true = IsFoundIn P n steps list
FoundIs P n steps list false = IsFoundIn P n steps list → ⊥

-- the values of these matches that were taken aren't in the list
pub record LookedUpto (P : Tree) (ms : List Node) (waiting : Option Serial) (below : ℕ) (list : List (List ℕ)) : Type 0 where
  pub values : List (List ℕ)
  pub took : TookUpto P ms waiting below values
  pub none : NoneListed values list

-- whether a closed match has a value of the list, and that none has that was taken now or before
abbrev pub LooksOn : View → (p : ℕ) → (before now : Taken) → (list : List (List ℕ)) → Bool → Type 0
LooksOn v p k l list b = (P : Tree) (keep : Node → Bool) (n : Node) → AsksPath v p k.steps P keep n
    → LookedUpto P (matches P (serial_of n) k.steps) k.waiting k.below list
    → FoundIs P n k.steps list b × LookedUpto P (matches P (serial_of n) k.steps) l.waiting l.below list

-- over some tree the inner path is asked about at the node of this serial, whose row is at the place, and what was looked up is right
pub record MayFindIn (v : View) (p of : ℕ) (q : Equality) : Type 0 where
  pub tree : Tree
  pub keep : Node → Bool
  pub node : Node
  pub asks : AsksPath v p q.seen.steps tree keep node
  pub serial : serial_of node ≡ of
  pub looked : IsLooked q tree

-- whether a closed match of the inner path from that node has a value of the list
abbrev pub FindsIn : View → (p of : ℕ) → (q r : Equality) → Bool → Type 0
FindsIn v p of q r b = (P : Tree) (keep : Node → Bool) (n : Node) → AsksPath v p q.seen.steps P keep n → serial_of n ≡ of
    → IsLooked q P → (l : Listed) → q.list ≡ Some l → FoundIs P n q.seen.steps l.values b × IsLooked r P

-- What is told of a comparison: its truth; or none, since it is no equality of the plan, or its outer node is open.
abbrev pub LooksUp : View → Bindings → (left : Operand) → Rel → (right : Operand) → (k l : IndexView) → Option Truth → Type 0
LooksUp v bound left rel right k l (Some t) = TellsTruthOf v bound (comparison left rel right) k l t
LooksUp v bound left rel right k l None = (l ≡ k) × (rel ≡ Eq → HasEquality k.equalities (operand_tree left) (operand_tree right)
    → (P : Tree) (env : Env) → Over v.nodes (IsIndex k) P → Asked v.rows bound (comparison left rel right) P env → IsOuterClosed (operand_tree left) (operand_tree right) env P → ⊥)

-- no equality of the plan with a closed outer node is reached
abbrev pub ReachesNone : View → Bindings → IndexView → CondTree → Type 0
ReachesNone v bound k c = (P : Tree) (env : Env) → Over v.nodes (IsIndex k) P → Asked v.rows bound c P env → (l r : OperandTree)
    → ReachesEquality l r c env P → HasEquality k.equalities l r → IsOuterClosed l r env P → ⊥

-- it is no equality of two paths
abbrev pub IsNoneOfPaths : (left : Operand) → Rel → (right : Operand) → Type 0
IsNoneOfPaths left rel right = (one two : Side) → operand_tree left ≡ path_of_side one → rel ≡ Eq → operand_tree right ≡ path_of_side two → ⊥

-- the truth of the condition comes to none
abbrev pub GetsNoList : CondTree → Type 0
GetsNoList c = (P : Tree) (env : Env) (one two : Side) → ReachesEquality (path_of_side one) (path_of_side two) c env P → ⊥

-- what marks tell of a condition without parts: the lists stay
pub record MarksTell (v : View) (bound : Bindings) (c : CondTree) (k l : IndexView) (t : Truth) : Type 0 where
  pub answers : AnswersOver v (AreMarks k.marked) (AreMarks l.marked) bound c t
  pub equalities : l.equalities ≡ k.equalities
  pub built : l.built ≡ k.built
