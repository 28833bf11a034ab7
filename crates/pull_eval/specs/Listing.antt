-- What each call on the lists of a loop tells. Private functions alone speak of it.
use Rattle.std.specs.Prelude.{◌≡◌, ◌<◌, ◌≤◌, ◌↔◌, ◌⊎◌, ℕ, Bool, true, false, List, ◌++◌, map, length, slice_index_or}
use Rattle.gcx_base.specs.declared.steps.Step.{Step}
use Rattle.gcx_model.specs.Tree.{Node, Tree, is_closed}
use Rattle.gcx_model.specs.Paths.{value}
use Rattle.gcx_model.specs.Members.{In}
use Rattle.buf_tree.specs.Shape.{Cell}
use Rattle.cond_eval.specs.Asking.{RowsOf}
use Rattle.cond_eval.specs.Reads.{AreNodes}
use Rattle.cond_eval.specs.Comparing.{IsNodeRow, KeepsMatches, Readable}
use Rattle.cond_eval.specs.declared.sets.Member.{Member}
use Rattle.pull_eval.specs.declared.turns.Entry.{Entry}
use Rattle.pull_eval.specs.Turns.{AreListed, is_text_before}

-- the rows of the members are those of nodes
abbrev pub AreNodeRows : List Cell → List Member → Type 0
AreNodeRows rows hs = (h : Member) → In h hs → IsNodeRow rows h.place

-- the texts are the values of the members' nodes
abbrev pub AreValues : List Cell → List Member → List (List ℕ) → Type 0
AreValues rows ms vs = (P : Tree) (keep : Node → Bool) (ns : List Node) → Readable rows P keep ms ns → vs ≡ map (value P) ns

-- the entries of a match with these texts
abbrev pub entry_at : Member → List ℕ → Entry
entry_at h v = record { text = v; hit = h }

-- the values of the members' nodes are put at the match
pub record PutsEntries (rows : List Cell) (set : List Member) (h : Member) (before now : List Entry) : Type 0 where
  pub texts : List (List ℕ)
  pub values : AreValues rows set texts
  pub put : now ≡ before ++ map (entry_at h) texts

-- the members are the rows of these nodes, which are closed, and of which all matches of the steps are kept
pub record AreRead (rows : List Cell) (P : Tree) (keep : Node → Bool) (steps : List Step) (hs : List Member) (ms : List Node) : Type 0 where
  pub rows_of : RowsOf rows P keep
  pub nodes : AreNodes rows hs ms
  pub there : (j : Node) → In j ms → In j P.nodes × (keep j ≡ true)
  pub closed : (j : Node) → In j ms → is_closed P j ≡ true
  pub kept : (j : Node) → In j ms → KeepsMatches P keep j steps

-- the entries are the values at the members
abbrev pub ListsAll : List Cell → List Step → List Member → List Entry → Type 0
ListsAll rows steps hs es = (P : Tree) (keep : Node → Bool) (ms : List Node) → AreRead rows P keep steps hs ms → AreListed rows P steps ms es

-- the entries that stand before the value are so many
pub record CountsBefore (es : List Entry) (v : List ℕ) (n : ℕ) : Type 0 where
  pub low : (k : ℕ) (d : Entry) → k < n → is_text_before (slice_index_or es k d).text v ≡ true
  pub high : (k : ℕ) (d : Entry) → n ≤ k → k < length es → is_text_before (slice_index_or es k d).text v ≡ false

-- the match stands in an entry with this text
abbrev pub HasTextAt : List Entry → Member → List ℕ → Type 0
HasTextAt es h v = (e : Entry) × In e es × (e.hit ≡ h) × (e.text ≡ v)

-- the matches with the value are put
abbrev pub PutsHits : List Entry → List ℕ → (before now : List Member) → Type 0
PutsHits es v before now = (h : Member) → In h now ↔ (In h before ⊎ HasTextAt es h v)

-- the match has the value of one of these nodes
abbrev pub HasValueOf : List Entry → Tree → List Node → Member → Type 0
HasValueOf es P ns h = (m : Node) × In m ns × HasTextAt es h (value P m)

-- the matches are all with a value of the set
abbrev pub HitsAll : List Cell → (set : List Member) → List Entry → List Member → Type 0
HitsAll rows set es hs = (P : Tree) (keep : Node → Bool) (ns : List Node) → Readable rows P keep set ns → (h : Member) → In h hs ↔ HasValueOf es P ns h
