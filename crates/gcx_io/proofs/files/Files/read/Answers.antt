use Rattle.std.proofs.Common.{◌≡◌, ◌<◌, List, length, slice_set, sym, ◌∙◌, ap, subst}
use Rattle.gcx_io.specs.Held.{OpenHandle, rest_at, read_at}
use Rattle.gcx_io.specs.Files.{OpenFiles}
use Rattle.gcx_io.proofs.Handles.{rest_is, read_set}
use Rattle.gcx_io.proofs.files.Files.read.Goals as goal

pub returns-clause-count : goal.returns-clause-count
returns-clause-count c =
    let os : c.args.self.now.openings ≡ c.self.inside.openings.items = ap (λ (f : OpenFiles). f.openings) (sym c.self.view_is) in
    let given : c.args.handle.0 < length c.self.inside.openings.items = subst (λ (l : List OpenHandle). c.args.handle.0 < length l) os c.requires.given in
    let rest : rest_at c.args.self.now.openings c.args.handle.0 ≡ c.index_mut.result.now.rest =
    ap (λ (l : List OpenHandle). rest_at l c.args.handle.0) os ∙ rest_is c.self.inside.openings.items c.args.handle.0 c.index_mut.result.now given c.index_mut.ensures.value in
    rw rest c.read.ensures.count

pub returns-clause-moved : goal.returns-clause-moved
returns-clause-moved c =
    let os : c.args.self.now.openings ≡ c.self.inside.openings.items = ap (λ (f : OpenFiles). f.openings) (sym c.self.view_is) in
    let given : c.args.handle.0 < length c.self.inside.openings.items = subst (λ (l : List OpenHandle). c.args.handle.0 < length l) os c.requires.given in
    let rest : rest_at c.args.self.now.openings c.args.handle.0 ≡ c.index_mut.result.now.rest =
    ap (λ (l : List OpenHandle). rest_at l c.args.handle.0) os ∙ rest_is c.self.inside.openings.items c.args.handle.0 c.index_mut.result.now given c.index_mut.ensures.value in
    rw rest c.read.ensures.moved

pub returns-clause-rest : goal.returns-clause-rest
returns-clause-rest c =
    let os : c.args.self.now.openings ≡ c.self.inside.openings.items = ap (λ (f : OpenFiles). f.openings) (sym c.self.view_is) in
    let given : c.args.handle.0 < length c.self.inside.openings.items = subst (λ (l : List OpenHandle). c.args.handle.0 < length l) os c.requires.given in
    let set : slice_set c.self.inside.openings.items c.args.handle.0 c.read.new.self ≡ read_at c.self.inside.openings.items c.args.handle.0 (length c.read.new.buf) c.read.result =
    ap (λ (o : OpenHandle). slice_set c.self.inside.openings.items c.args.handle.0 o) c.read.ensures.rest
    ∙ read_set c.self.inside.openings.items c.args.handle.0 (length c.read.new.buf) c.read.result c.index_mut.result.now given c.index_mut.ensures.value in
    rw (← c.self.view_is) (ap (λ (l : List OpenHandle). record { files = c.self.inside.entries.items; openings = l; whole = c.self.inside.whole; refused = c.self.inside.misses.list }) set)
