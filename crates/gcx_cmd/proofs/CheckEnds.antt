-- How `check` ends with a trace that a run wrote.
use Rattle.std.proofs.Common.{◌≡◌, ◌∙◌, ◌⊎◌, inl, inr, ℕ, ◌+◌, Bool, true, List, ◌++◌, length, Some, None, refl, sym, ap, subst}
use Rattle.gcx_base.specs.Limits.{full_limits}
use Rattle.gcx_io.specs.Shelf.{content_of}
use Rattle.gcx_io.specs.Writing.{joined}
use Rattle.gcx_model.specs.Faults.{FaultIs}
use Rattle.gcx_model.specs.Normal.{normal}
use Rattle.gcx_model.specs.Placed.{plan_of}
use Rattle.gcx_model.specs.Query.{ExprTree}
use Rattle.gcx_model.specs.Seen.{SeenIs}
use Rattle.gcx_model.specs.Tree.{TreeToken}
use Rattle.gcx_model.specs.declared.fault.DocFault.{DocFault}
use Rattle.doc_laws.proofs.Unique.{fault_one}
use Rattle.run_words.specs.Stops.{EndAnswered, FaultAnswered, More, Stop, IsCalm, is_end}
use Rattle.xq_parse.specs.Spelling.{QuerySpells}
use Rattle.time_laws.specs.Checking.{IsAnother, IsFront}
use Rattle.trace_check.proofs.Accepted.{traces_are_accepted}
use Rattle.gcx_cmd.proofs.Complete.{refused_not}
use Rattle.gcx_cmd.proofs.Says.{DocSays, check_doc_says, read_all, read_part, refused_query, says_of_document}
use Rattle.gcx_cmd.specs.Accepting.{RefusesNothing}
use Rattle.gcx_cmd.specs.CheckDoes.{CheckDoes, Checks}
use Rattle.gcx_cmd.specs.World.{World}
use Rattle.gcx_cmd.specs.Reads.{Reads}
use Rattle.gcx_cmd.specs.RunDoes.{Runs}
use Rattle.gcx_cmd.specs.Tracing.{trace_text}
use Rattle.gcx_cmd.specs.declared.status.Status.{Status}
use Rattle.gcx_cmd.specs.declared.status.Status.TheVariants as status

module _ (ahead : ℕ) (q d : List ℕ) (a b : World) (r : Runs true ahead q d status.Ok a b) (x y z : List ℕ) (u v : World)
    (told_q : content_of u.shelf.names x ≡ Some (joined r.over.query.pieces)) (told_d : content_of u.shelf.names y ≡ Some (joined r.pieces)) (told_t : content_of u.shelf.names z ≡ Some r.ends.2.trace) where
  abbrev took : List ℕ
  took = r.ends.2.trace

  -- the trace is that of the same query over the same tokens
  text_is : (n : ℕ) (c : Checks x y z (status.TraceRefused n) u v) → took ≡ trace_text c.x c.ts
  text_is n c =
      let text : joined r.over.query.pieces ≡ joined c.over.query.pieces = read_all x (joined r.over.query.pieces) (length u.shelf.given) u.shelf v.shelf c.over.query.pieces told_q c.over.query.reads in
      let same : c.x ≡ r.x = r.over.query.only.once c.x (subst (λ (l : List ℕ). QuerySpells l c.x) (sym text) c.over.query.accepts.spells) in
      let bytes : joined r.pieces ≡ joined c.over.doc_pieces = read_all y (joined r.pieces) (length u.shelf.given + 1) u.shelf v.shelf c.over.doc_pieces told_d c.over.doc in
      let seen : SeenIs full_limits (joined r.pieces) true c.ts = subst (λ (l : List ℕ). SeenIs full_limits l true c.ts) (sym bytes) c.over.tokens.seen in
      let w = r.ends.2 in
      (traces_are_accepted (plan_of (normal r.x)) full_limits (joined r.pieces) w.traced.0 c.ts w.trace w.traced.1 w.traced.2 seen).1
      ∙ ap (λ (e : List ExprTree). trace_text e c.ts) (sym same)

  -- so it isn't refused
  not_another : (n : ℕ) (c : Checks x y z (status.TraceRefused n) u v) → ⊥
  not_another n c = by c.stop refl c.judged.0 c.judged.1.0
    where
      is : took ≡ trace_text c.x c.ts
      is = text_is n c

      early : IsFront (joined c.pieces) (trace_text c.x c.ts)
      early = let part = read_part z took (length u.shelf.given + 2) u.shelf v.shelf c.pieces told_t c.stop c.over.trace in (part.0, sym is ∙ part.1)

      by : (stop : Stop) → c.stop ≡ stop → IsCalm stop → IsAnother (trace_text c.x c.ts) (joined c.pieces) (is_end stop) → ⊥
      by FaultAnswered e calm other = calm
      by More e calm (inl front) = front early
      by More e calm (inr rest) = let ended : is_end More ≡ true = rest.0 in let no : ⊥ = cc in no
      by EndAnswered e calm (inl front) = front early
      by EndAnswered e calm (inr rest) =
          let all = read_all z took (length u.shelf.given + 2) u.shelf v.shelf c.pieces told_t (subst (λ (s : Stop). Reads z (length u.shelf.given + 2) u.shelf v.shelf c.pieces s) e c.over.trace) in
          rest.2 (sym all ∙ is)

  none_fault : (g : DocFault) → None ≡ Some g → ⊥
  none_fault g e = cc

  pub check_ends : (s : Status) → CheckDoes x y z s u v → RefusesNothing s
  check_ends status.Ok does = inl refl
  check_ends status.Usage does = absurd does
  check_ends (status.QueryRefused f) does =
      absurd (refused_not (joined r.over.query.pieces) f (refused_query x (joined r.over.query.pieces) u.shelf v.shelf told_q f does.1) (r.x, r.over.query.accepts))
  check_ends (status.DocumentRefused f) does =
      absurd (none_fault f (fault_one full_limits (joined r.pieces) true None (Some f) r.ends.1
      (says_of_document y (joined r.pieces) u.shelf v.shelf told_d (status.DocumentRefused f) (check_doc_says x y z (status.DocumentRefused f) u v does))))
  check_ends status.ReadFault does = inr (inr (inl refl))
  check_ends status.WriteFault does = inr (inr (inr refl))
  check_ends status.Memory does = inr (inl refl)
  check_ends (status.TraceRefused n) does = absurd (not_another n does)
