use Rattle.std.proofs.Common.{◌≡◌, ◌<◌, List, length, slice_set, sym, ◌∙◌, ap, subst}
use Rattle.gcx_io.specs.Held.{OpenHandle, noted_at}
use Rattle.gcx_io.specs.Files.{OpenFiles}
use Rattle.gcx_io.specs.Views.{Denied}
use Rattle.gcx_io.proofs.Handles.{noted_set}
use Rattle.gcx_io.proofs.files.Files.deny.Goals as goal

pub returns : goal.returns
returns c =
    let os : c.args.self.now.openings ≡ c.self.inside.openings.items = ap (λ (f : OpenFiles). f.openings) (sym c.self.view_is) in
    let given : c.args.handle.0 < length c.self.inside.openings.items = subst (λ (l : List OpenHandle). c.args.handle.0 < length l) os c.requires in
    let set : slice_set c.self.inside.openings.items c.args.handle.0 c.deny.new.self ≡ noted_at c.self.inside.openings.items c.args.handle.0 (Denied c.args.piece.now) =
    ap (λ (o : OpenHandle). slice_set c.self.inside.openings.items c.args.handle.0 o) c.deny.ensures
    ∙ noted_set c.self.inside.openings.items c.args.handle.0 (Denied c.args.piece.now) c.index_mut.result.now given c.index_mut.ensures.value in
    rw (← c.self.view_is) (ap (λ (l : List OpenHandle). record { files = c.self.inside.entries.items; openings = l; whole = c.self.inside.whole; refused = c.self.inside.misses.list }) set)
