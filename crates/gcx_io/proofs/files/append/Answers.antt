use Rattle.std.proofs.Common.{List, ℕ, subst}
use Rattle.gcx_io.specs.Held.{File}
use Rattle.gcx_io.specs.Files.{IsPlaceOf}
use Rattle.gcx_io.proofs.Mapped.{keeps_at}
use Rattle.gcx_io.proofs.files.append.Goals as goal

pub returns-in-Some : goal.returns-in-Some
returns-in-Some c =
    let there : IsPlaceOf c.args.name.now c.args.entries.now.items c.in-Some.i =
    subst (λ (n : List ℕ). IsPlaceOf n c.args.entries.now.items c.in-Some.i) c.as_bytes.ensures.bytes
    (subst (λ (l : List File). IsPlaceOf c.as_bytes.result.now l c.in-Some.i) c.deref.ensures.value c.in-Some.ensures) in
    keeps_at c.append.result c.args.entries.now.items c.in-Some.i c.index_mut.result.now c.append.new.self c.args.name.now c.args.piece.now there c.index_mut.ensures.value
    c.append.ensures.name c.append.ensures.kept c.append.ensures.lost
