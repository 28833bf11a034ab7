use Rattle.std.proofs.Common.{◌≡◌, ℕ, List, length, take, true, sym, ◌∙◌, ap, subst, arith, refl, Ok}
use Rattle.std.proofs.lemmas.List.{take_all}
use Rattle.gcx_io.specs.Files.{OpenFiles, all_names, owners}
use Rattle.gcx_io.specs.Held.{noted_at}
use Rattle.gcx_io.specs.Views.{Took}
use Rattle.gcx_io.proofs.Seen.{shelf_writes, write_others, noted_names, noted_count}
use Rattle.gcx_io.specs.Shelf.{Appends}
use Rattle.gcx_io.proofs.Shelves.{write_appends}
use Rattle.gcx_io.proofs.sure_shelf.SureShelfShelf.write.Goals as goal

pub returns-clause-bytes : goal.returns-clause-bytes
returns-clause-bytes c =
    let whole : take (length c.args.piece.now) c.args.piece.now ≡ c.args.piece.now = take_all _ _ (omega arith) in
    rw (← c.self.view_is)
    (subst (λ (l : List ℕ). Appends (all_names c.self.inside.files) (all_names c.write.new.self) (owners c.self.inside.files c.args.handle.0) l) (sym whole)
    (write_appends true c.self.inside.files c.write.new.self _ c.args.handle.0 c.args.piece.now (rw (← c.self.view_is) at c.requires.given) c.write.ensures.keeps c.write.ensures.lost))

pub returns-clause-others : goal.returns-clause-others
returns-clause-others c = rw (← c.self.view_is) (write_others c.self.inside.files c.write.new.self c.args.handle.0 (Took c.args.piece.now) _ _
    (λ e. ap (λ (s : OpenFiles). s.whole) (c.write.ensures.lost e) ∙ e) c.write.ensures.openings)

pub returns-clause-handles : goal.returns-clause-handles
returns-clause-handles c = rw (← c.self.view_is) (noted_count c.self.inside.files c.write.new.self c.args.handle.0 (Took c.args.piece.now) c.write.ensures.openings)

pub returns-clause-named : goal.returns-clause-named
returns-clause-named c = rw (← c.self.view_is) (noted_names c.self.inside.files c.write.new.self c.args.handle.0 (Took c.args.piece.now) c.write.ensures.openings)

pub returns-clause-takes : goal.returns-clause-takes
returns-clause-takes c =
    let whole : take (length c.args.piece.now) c.args.piece.now ≡ c.args.piece.now = take_all _ _ (omega arith) in
    rw (← c.self.view_is) (shelf_writes _ _ _ _ _ _ c.self.inside.files c.write.new.self c.args.handle.0 (Ok (length c.args.piece.now)) c.args.piece.now refl
    (record { later = omega arith; failed = tt }) refl
    (c.write.ensures.openings ∙ ap (λ (l : List ℕ). noted_at c.self.inside.files.openings c.args.handle.0 (Took l)) (sym whole))
    c.write.ensures.refused (rw (← c.self.view_is) at c.requires.given))
