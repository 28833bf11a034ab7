-- What each call tells of a mark and of the rows that it looks at. Private functions alone speak of it.
use Rattle.std.specs.Prelude.{◌≡◌, ◌<◌, ℕ, Bool, true, List, [], map, Option}
use Rattle.gcx_base.specs.declared.ids.Serial.{Serial}
use Rattle.gcx_base.specs.declared.ids.VarId.{VarId}
use Rattle.gcx_base.specs.declared.steps.Step.{Step}
use Rattle.gcx_model.specs.Tree.{Node, serial_of, above, Tree}
use Rattle.gcx_model.specs.Paths.{hits, reach, matches}
use Rattle.gcx_model.specs.Members.{In}
use Rattle.gcx_model.specs.declared.truth.Truth.{Truth}
use Rattle.node_store.specs.declared.store.Place.{Place}
use Rattle.buf_tree.specs.Shape.{Cell}
use Rattle.buf_tree.specs.View.{View}
use Rattle.cond_eval.specs.Reads.{NodeAt}
use Rattle.cond_eval.specs.Searches.{Finds}
use Rattle.cond_eval.specs.Bindings.{Bindings}
use Rattle.cond_eval.specs.Kept.{AddsOnce}
use Rattle.cond_memo.specs.Marks.{AreMarks, AsksOf, answer, known, does, is_settled, Tried, IsOpenNow, IsMark, Asks, KeepsValue, Looked, Searched, Settles, Found, NextAbove, subject, subject_of}
use Rattle.cond_memo.specs.declared.mark.Ask.{Ask}
use Rattle.cond_memo.specs.declared.mark.Mark.{Mark}
use Rattle.cond_memo.specs.declared.marked.Marked.{Marked}

-- whether the match at the place does
abbrev pub TellsDoes : List Cell → Option Ask → (place : ℕ) → Bool → Type 0
TellsDoes rows ask p b = (P : Tree) (keep : Node → Bool) (m : Node) → NodeAt rows P keep p m → KeepsValue P keep ask m → b ≡ does P ask m

-- whether that is settled
abbrev pub TellsSettled : List Cell → Option Ask → (place : ℕ) → Bool → Type 0
TellsSettled rows ask p b = (P : Tree) (keep : Node → Bool) (m : Node) → NodeAt rows P keep p m → b ≡ is_settled P ask m

-- whether the steps lead from the node at p to that at q, which the last of them reaches
abbrev pub TellsMatch : List Cell → List Step → (last : Step) → (p q : ℕ) → Bool → Type 0
TellsMatch rows steps last p q b = (P : Tree) (keep : Node → Bool) (n m : Node) → NodeAt rows P keep p n → NodeAt rows P keep q m → reach (serial_of n) last m ≡ true → b ≡ hits (serial_of n) steps m

-- a look at the node at q, with the mark k of the node at p
abbrev pub LooksAt : List Cell → (k : Mark) → (p q : ℕ) → (waiting : Option Serial) → Bool → Type 0
LooksAt rows k p q waiting b = (P : Tree) (keep : Node → Bool) (n m : Node) → NodeAt rows P keep p n → NodeAt rows P keep q m → reach (serial_of n) k.last m ≡ true
    → (hits (serial_of n) k.steps m ≡ true → KeepsValue P keep k.ask m) → Looked P k.steps k.ask n m k.waiting waiting b

-- the first row behind those that were looked at
abbrev pub FindsNew : List Cell → (k : Mark) → (p : ℕ) → Option Place → Type 0
FindsNew rows k p found = (c : Cell) → In c rows → c.place ≡ p → Finds rows c k.last k.upto.0 found

-- the nodes were searched that are new, where all that were open still are
abbrev pub SearchesOn : View → (k : Mark) → (p : ℕ) → (waiting : Option Serial) → (upto : ℕ) → Bool → Type 0
SearchesOn v k p waiting upto b = (P : Tree) (keep : Node → Bool) (n : Node) → Asks v.rows v.nodes k.steps k.ask p P keep n
    → Tried P k.ask (matches P (serial_of n) k.steps) k.waiting k.upto.0 → IsOpenNow P k.waiting → Searched P k.ask (matches P (serial_of n) k.steps) waiting upto b

-- those that were open and aren't any more
abbrev pub SearchesBack : View → (k : Mark) → (p : ℕ) → (waiting : Option Serial) → Bool → Type 0
SearchesBack v k p waiting b = (P : Tree) (keep : Node → Bool) (n : Node) → Asks v.rows v.nodes k.steps k.ask p P keep n
    → Tried P k.ask (matches P (serial_of n) k.steps) k.waiting k.upto.0 → Searched P k.ask (matches P (serial_of n) k.steps) waiting k.upto.0 b

-- and both
abbrev pub SearchesAll : View → (k : Mark) → (p : ℕ) → (waiting : Option Serial) → (upto : ℕ) → Bool → Type 0
SearchesAll v k p waiting upto b = (P : Tree) (keep : Node → Bool) (n : Node) → Asks v.rows v.nodes k.steps k.ask p P keep n
    → ((k.steps ≡ [] → ⊥) → Tried P k.ask (matches P (serial_of n) k.steps) k.waiting k.upto.0) → Found P k.steps k.ask (matches P (serial_of n) k.steps) waiting upto b

-- the nearest match above the node at q, below that at p
abbrev pub FindsUpwards : List Cell → List Step → (p q : ℕ) → Option Serial → Type 0
FindsUpwards rows steps p q found = (P : Tree) (keep : Node → Bool) (n o : Node) → NodeAt rows P keep p n → NodeAt rows P keep q o → In n (above o) → serial_of n < serial_of o
    → (steps ≡ [] → ⊥) → NextAbove steps n o found

-- whether the node at the place does itself, where there are no steps
abbrev pub SettlesItself : View → Option Ask → (p : ℕ) → Bool → Type 0
SettlesItself v ask p b = (P : Tree) (keep : Node → Bool) (n : Node) → Asks v.rows v.nodes [] ask p P keep n → Settles P ask (matches P (serial_of n) []) b

-- the answer of the node at p, and that the mark stands for the same trees
abbrev pub TellsAnswer : View → (before after : Mark) → (p of : ℕ) → Option Bool → Type 0
TellsAnswer v k l p of t = (P : Tree) (keep : Node → Bool) (n : Node) → Asks v.rows v.nodes k.steps k.ask p P keep n → serial_of n ≡ of → IsMark k P
    → (answer P k.steps k.ask n ≡ known t) × IsMark l P

-- the truth of a question about a path, and that the marks stand for the same trees
abbrev pub AnswersAsked : View → (before after : Marked) → Bindings → (x : ℕ) → List Step → Option Ask → Truth → Type 0
AnswersAsked v k l bound x steps ask t = (P : Tree) (keep : Node → Bool) (n : Node) → AreMarks k P → AsksOf v.rows v.nodes bound x steps ask P keep n → (t ≡ answer P steps ask n) × AreMarks l P

-- a mark is about this question: one that was there, else one that comes last; no other comes
abbrev pub AddsMark : (before after : List Mark) → VarId → List Step → Option Ask → Type 0
AddsMark before after x path ask = AddsOnce (subject x path ask) (map subject_of before) (map subject_of after)
