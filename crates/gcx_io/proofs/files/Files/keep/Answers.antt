use Rattle.std.proofs.Common.{◌≡◌, ◌<◌, ℕ, List, length, sym, ◌∙◌, ap, subst}
use Rattle.gcx_io.specs.Held.{OpenHandle, name_at}
use Rattle.gcx_io.specs.Files.{OpenFiles, KeepsInFile}
use Rattle.gcx_io.proofs.Handles.{name_is}
use Rattle.gcx_io.proofs.files.Files.keep.Goals as goal

pub returns-then-self-clause-keeps : goal.returns-then-self-clause-keeps
returns-then-self-clause-keeps c = λ whole.
    let os : c.args.self.now.openings ≡ c.self.inside.openings.items = ap (λ (f : OpenFiles). f.openings) (sym c.self.view_is) in
    let given : c.args.handle.0 < length c.self.inside.openings.items = subst (λ (l : List OpenHandle). c.args.handle.0 < length l) os c.requires.given in
    let named : name_at c.self.inside.openings.items c.args.handle.0 ≡ c.name.result.now =
    name_is c.self.inside.openings.items c.args.handle.0 c.index-opening.result.now given c.index-opening.ensures ∙ sym c.name.ensures in
    rw (← c.self.view_is)
    (subst (λ (n : List ℕ). KeepsInFile c.append-self-inside.result c.self.inside.entries.items c.append-self-inside.new.entries.items n c.args.piece.now) (sym named) c.append-self-inside.ensures)
