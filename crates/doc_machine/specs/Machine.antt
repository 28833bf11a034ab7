-- These definitions follow the code; no public clause speaks of them.
-- What the fields of the code stand for in the machine's definition (this project's).
use Rattle.std.specs.Prelude.{ℕ, List, [], ◌∷◌, drop}
use Rattle.gcx_model.specs.Markup.{cdata_word, doc_word}
use Rattle.doc_laws.specs.Machine as laws
use Rattle.doc_laws.specs.Machine.{State, innermost}
use Rattle.doc_machine.specs.declared.referring.Letters.{Letters}
use Rattle.doc_machine.specs.declared.referring.Letters.TheVariants as letters
use Rattle.doc_machine.specs.declared.referring.Referring.{Referring}
use Rattle.doc_machine.specs.declared.referring.Referring.TheVariants as referring
use Rattle.doc_machine.specs.declared.mode.Brackets.{Brackets}
use Rattle.doc_machine.specs.declared.mode.Brackets.TheVariants as brackets
use Rattle.doc_machine.specs.declared.mode.Quote.{Quote}
use Rattle.doc_machine.specs.declared.mode.Quote.TheVariants as quotes
use Rattle.doc_machine.specs.declared.mode.Mode.{Mode}
use Rattle.doc_machine.specs.declared.mode.Mode.TheVariants as mode
use Rattle.doc_machine.specs.declared.scan.Scan.{Scan}

abbrev pub letters_of : Letters → List ℕ
letters_of letters.None = []
letters_of letters.L = 108 ∷ []
letters_of letters.Lt = 108 ∷ (116 ∷ [])
letters_of letters.G = 103 ∷ []
letters_of letters.Gt = 103 ∷ (116 ∷ [])
letters_of letters.A = 97 ∷ []
letters_of letters.Am = 97 ∷ (109 ∷ [])
letters_of letters.Amp = 97 ∷ (109 ∷ (112 ∷ []))
letters_of letters.Ap = 97 ∷ (112 ∷ [])
letters_of letters.Apo = 97 ∷ (112 ∷ (111 ∷ []))
letters_of letters.Apos = 97 ∷ (112 ∷ (111 ∷ (115 ∷ [])))
letters_of letters.Q = 113 ∷ []
letters_of letters.Qu = 113 ∷ (117 ∷ [])
letters_of letters.Quo = 113 ∷ (117 ∷ (111 ∷ []))
letters_of letters.Quot = 113 ∷ (117 ∷ (111 ∷ (116 ∷ [])))

abbrev pub referring_of : Referring → laws.ReferenceRead
referring_of (referring.Letters l) = laws.Letters (letters_of l)
referring_of referring.Number = laws.Number
referring_of (referring.Decimal v) = laws.Decimal v
referring_of (referring.Hexadecimal v) = laws.Hexadecimal v

abbrev pub brackets_of : Brackets → ℕ
brackets_of brackets.None = 0
brackets_of brackets.One = 1
brackets_of brackets.Two = 2

abbrev pub quote_of : Quote → ℕ
quote_of quotes.Single = 39
quote_of quotes.Double = 34

-- the place in the grammar, given the names of the open elements
abbrev pub mode_of : List (List ℕ) → Mode → laws.MachineMode
mode_of ns mode.Opening = laws.Opening
mode_of ns mode.Between = laws.Between
mode_of ns mode.Less = laws.Less
mode_of ns mode.StartName = laws.StartName
mode_of ns mode.StartSpace = laws.StartSpace
mode_of ns mode.AttributeName = laws.AttributeName
mode_of ns mode.AttributeSpace = laws.AttributeSpace
mode_of ns mode.Equals = laws.Equals
mode_of ns (mode.InValue q) = laws.InValue (quote_of q)
mode_of ns (mode.InValueReference q r) = laws.InValueReference (quote_of q) (referring_of r)
mode_of ns mode.ValueEnd = laws.ValueEnd
mode_of ns mode.Slash = laws.Slash
mode_of ns (mode.EndName i) = laws.EndName (drop i (innermost ns))
mode_of ns mode.EndSpace = laws.EndSpace
mode_of ns mode.Question = laws.Question
mode_of ns mode.Target = laws.Target
mode_of ns mode.TargetMark = laws.TargetMark
mode_of ns mode.Instruction = laws.InInstruction 0
mode_of ns mode.InstructionMark = laws.InInstruction 1
mode_of ns (mode.DocWord i) = laws.DocWord (drop i doc_word)
mode_of ns mode.DocSpace = laws.DocSpace
mode_of ns mode.Doc = laws.Doc
mode_of ns (mode.DocLiteral q) = laws.DocLiteral q
mode_of ns mode.Bang = laws.Bang
mode_of ns mode.BangDash = laws.BangDash
mode_of ns mode.Comment = laws.Comment
mode_of ns mode.CommentDash = laws.CommentDash
mode_of ns mode.CommentEnd = laws.CommentEnd
mode_of ns (mode.CDSectWord i) = laws.CDSectWord (drop i cdata_word)
mode_of ns (mode.CDSect n) = laws.InCDSect (brackets_of n)
mode_of ns (mode.InReference r) = laws.InReference (referring_of r)

abbrev pub scan_state : Scan → State
scan_state m = record { mode = mode_of m.names m.mode; names = m.names; rooted = m.rooted; typed = m.typed; run = m.tokens.run; name = m.name.items; attrs = m.attrs; attr = m.attr.items; pending = m.tokens.pending; tokens = m.tokens.tokens }
