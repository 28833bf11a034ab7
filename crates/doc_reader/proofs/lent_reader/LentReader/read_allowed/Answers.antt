use Rattle.std.proofs.Common.{ℕ, ◌≡◌, ◌-◌, ◌<◌, List, ◌++◌, length, take, drop, Result, Err, sym, ap, ◌∙◌, subst, append_assoc, arith, length-append, length-take, length-drop}
use Rattle.std.proofs.lemmas.Result.{err_from_is_err_and}
use Rattle.std.proofs.lemmas.List.{take-append-drop}
use Rattle.gcx_model.specs.declared.fault.DocFault.{DocFault}
use Rattle.gcx_model.specs.declared.fault.DocFault.TheVariants as doc_faults
use Rattle.doc_reader.specs.Standing.{ReaderView}
use Rattle.doc_reader.specs.Piece.{Took}
use Rattle.doc_reader.proofs.Pieces.{took_more, took_past}
use Rattle.doc_reader.proofs.lent_reader.LentReader.read_allowed.Goals as goal

whole : (b piece : List ℕ) (n : ℕ) → (b ++ take n piece) ++ drop n piece ≡ b ++ piece
whole b piece n = append_assoc b (take n piece) (drop n piece) ∙ ap (λ l. b ++ l) (take-append-drop n piece)

pub returns-in_err-read_piece-clause-took : goal.returns-in_err-read_piece-clause-took
returns-in_err-read_piece-clause-took c b before r =
    let p = err_from_is_err_and c.from_residual.result c.from_residual.ensures.1 in
    let lim = c.args.self.now.limits in
    let piece = c.args.piece.now in
    let room : ℕ = c.self.inside.limits.bytes - c.self.inside.count in
    let new : ReaderView = c.read_piece-2.new.self in
    let fault : DocFault = c.in_err-read_piece.field-0.0 in
    subst (λ (q : Result (Unit {0}) DocFault). Took q new lim (b ++ piece) before) (sym (p.1 ∙ ap Err p.2))
    (subst (λ (l : List ℕ). Took {T = Unit {0}} (Err fault) new lim l before) (whole b piece room)
    (took_more new lim (b ++ take room piece) (drop room piece) before fault (c.in_err-read_piece.ensures.took b before r)))

pub returns-clause-took : goal.returns-clause-took
returns-clause-took c b before r =
    let lim = c.args.self.now.limits in
    let piece = c.args.piece.now in
    let room : ℕ = c.self.inside.limits.bytes - c.self.inside.count in
    let new : ReaderView = c.read_piece-2.new.self in
    let count : c.self.inside.count ≡ length b = ap (λ (v : ReaderView). v.count) c.self.view_is ∙ r.count in
    let bytes : c.self.inside.limits.bytes ≡ lim.bytes = ap (λ (v : ReaderView). v.limits.bytes) c.self.view_is in
    let full : length (b ++ take room piece) ≡ lim.bytes = omega (arith, length-append b (take room piece), length-take room piece, count, bytes, c.if-piece-room.false, c.self.invariant.within) in
    let more : 0 < length (drop room piece) = omega (arith, length-drop room piece, c.if-piece-room.false) in
    let at : lim.bytes ≡ c.self-2.inside.limits.bytes = ap (λ l. l.bytes) (sym c.in_ok-read_piece.ensures.same.limits) ∙ sym (ap (λ (v : ReaderView). v.limits.bytes) c.self-2.view_is) in
    subst (λ (n : ℕ). Took {T = Unit {0}} (Err (doc_faults.TooLong n)) new lim (b ++ piece) before) at
    (subst (λ (l : List ℕ). Took {T = Unit {0}} (Err (doc_faults.TooLong lim.bytes)) new lim l before) (whole b piece room)
    (took_past new lim (b ++ take room piece) (drop room piece) before (c.in_ok-read_piece.ensures.took b before r).0 full more))
