-- The texts that commands write once QUERY is accepted.
use Rattle.std.proofs.Common.{inl, inr, ℕ, ◌≤◌, List, [], Some, refl, arith}
use Rattle.gcx_gen.specs.Generated.{document}
use Rattle.gcx_io.specs.Views.{ShelfView, SinkView}
use Rattle.gcx_io.specs.Writing.{Takes, Owes}
use Rattle.gcx_model.specs.Query.{ExprTree}
use Rattle.gcx_words.specs.declared.command.Command.{Command}
use Rattle.gcx_words.specs.declared.command.Command.TheVariants.{Explain, Gen}
use Rattle.run_words.specs.Stops.{EndAnswered}
use Rattle.run_words.specs.Writing.{TakesFront}
use Rattle.gcx_cmd.proofs.Along.{keeps_same}
use Rattle.gcx_cmd.proofs.Stops.{keeps_of, untouched}
use Rattle.gcx_cmd.specs.Does.{DoesIf}
use Rattle.gcx_cmd.specs.ExplainDoes.{ExplainDoes}
use Rattle.gcx_cmd.specs.Keeps.{HasCauses, Keeps}
use Rattle.gcx_cmd.specs.Main.{HasNoMemory}
use Rattle.gcx_cmd.specs.World.{StoreView, WritesAlone, beside}
use Rattle.gcx_cmd.specs.QueryDoes.{AcceptsQuery}
use Rattle.gcx_cmd.specs.Reads.{KeepsShelf, Opens}
use Rattle.gcx_cmd.specs.Texts.{explain_text}
use Rattle.gcx_cmd.specs.Writes.{WritesText}
use Rattle.gcx_cmd.specs.declared.status.Status.{Status}
use Rattle.gcx_cmd.specs.declared.status.Status.TheVariants as status

-- ---- what the writing of a text says of the status

pub text_causes : (c : Command) (s : Status) (a b : ShelfView) (o p e : SinkView) (st : StoreView) (text : List ℕ) → WritesText s o p text
    → HasCauses c s (beside a o e st) (beside b p e st)
text_causes c status.Ok a b o p e st text w = tt
text_causes c status.Usage a b o p e st text w = tt
text_causes c (status.QueryRefused f) a b o p e st text w = tt
text_causes c (status.DocumentRefused f) a b o p e st text w = tt
text_causes c status.ReadFault a b o p e st text w = absurd w
text_causes c status.WriteFault a b o p e st text w = inl w.faults
text_causes c status.Memory a b o p e st text w = tt
text_causes c (status.TraceRefused n) a b o p e st text w = tt

pub text_memory : (s : Status) (o p : SinkView) (text : List ℕ) → WritesText s o p text → HasNoMemory s
text_memory status.Ok o p text w = tt
text_memory status.Usage o p text w = absurd w
text_memory (status.QueryRefused f) o p text w = absurd w
text_memory (status.DocumentRefused f) o p text w = absurd w
text_memory status.ReadFault o p text w = absurd w
text_memory status.WriteFault o p text w = tt
text_memory status.Memory o p text w = tt
text_memory (status.TraceRefused n) o p text w = tt

-- ---- explain

module _ (q : List ℕ) (a b : ShelfView) (o p e : SinkView) (st : StoreView) (x : List ExprTree) (one : Opens 1 a b) (accepted : AcceptsQuery q a b x) (k : KeepsShelf a b) where
  explained : (s : Status) → WritesText s o p (explain_text x) → ExplainDoes q s (beside a o e st) (beside b p e st)
  explained status.Ok w = record { one = one; x = x; query = accepted; wrote = w; err = refl; store = refl }
  explained status.Usage w = absurd w
  explained (status.QueryRefused f) w = absurd w
  explained (status.DocumentRefused f) w = absurd w
  explained status.ReadFault w = absurd w
  explained status.WriteFault w = record { one = one; x = x; query = accepted; wrote = w; err = refl; store = refl }
  explained status.Memory w = absurd w
  explained (status.TraceRefused n) w = absurd w

  pub explained_if : (s : Status) → o.faults ≤ p.faults → WritesText s o p (explain_text x) → DoesIf (Some (Explain q)) s (beside a o e st) (beside b p e st)
  explained_if s later w = (
    keeps_of (Explain q) s (beside a o e st) (beside b p e st) k later (omega arith) (text_causes (Explain q) s a b o p e st (explain_text x) w)
        (text_memory s o p (explain_text x) w),
    explained s w,
  )

  -- memory ran out behind QUERY
  pub explain_lacks : DoesIf (Some (Explain q)) status.Memory (beside a o e st) (beside b o e st)
  explain_lacks = (
    keeps_of (Explain q) status.Memory (beside a o e st) (beside b o e st) k (omega arith) (omega arith) tt tt,
    (untouched a b o e st, inr (one, accepted.pieces, EndAnswered, accepted.reads, inl (tt, accepted.within))),
  )

-- ---- gen

module _ (seed count : ℕ) (a : ShelfView) (o p e : SinkView) (st : StoreView) (later : o.faults ≤ p.faults) where
  alone : WritesAlone (beside a o e st) (beside a p e st)
  alone = record { shelf = refl; err = refl; store = refl }

  keeps : (s : Status) → HasCauses (Gen seed count) s (beside a o e st) (beside a p e st) → HasNoMemory s
      → Keeps (Gen seed count) s (beside a o e st) (beside a p e st)
  keeps s causes memory = keeps_of (Gen seed count) s (beside a o e st) (beside a p e st) (keeps_same a) later (omega arith) causes memory

  pub made_all : Takes o p (document seed count) → DoesIf (Some (Gen seed count)) status.Ok (beside a o e st) (beside a p e st)
  made_all t = (keeps status.Ok tt tt, (alone, t))

  pub made_part : Owes o p [] (document seed count) → DoesIf (Some (Gen seed count)) status.WriteFault (beside a o e st) (beside a p e st)
  made_part w = (keeps status.WriteFault (inl w.faults) tt, (alone, w))

  pub made_front : TakesFront o p [] (document seed count) → DoesIf (Some (Gen seed count)) status.Memory (beside a o e st) (beside a p e st)
  made_front f = (keeps status.Memory tt tt, (alone, f))
