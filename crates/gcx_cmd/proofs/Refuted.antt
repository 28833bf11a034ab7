-- What no end of `run` lets through: each lemma is a history that a wrong body leaves at the files.
use Rattle.std.proofs.Common.{◌≡◌, ◌≢◌, ◌⊎◌, inl, inr, ℕ, zero, suc, ◌+◌, ◌<◌, ◌≤◌, List, [], ◌∷◌, ◌++◌, length, map, slice_get, All, Bool, false, Option, Some, None, refl, sym, ap, subst, ◌∙◌, append_assoc, append-nil, arith, length-append}
use Rattle.std.proofs.lemmas.Bool.{cases_order}
use Rattle.std.proofs.lemmas.List.{length_push, same_from_push}
use Rattle.gcx_base.specs.Limits.{full_limits}
use Rattle.gcx_model.specs.Faults.{FaultIs}
use Rattle.gcx_model.specs.declared.fault.DocFault.{DocFault}
use Rattle.gcx_model.specs.declared.fault.QueryFault.{QueryFault}
use Rattle.doc_laws.proofs.Pieces.{fault_stays}
use Rattle.doc_laws.proofs.Unique.{fault_one}
use Rattle.gcx_io.specs.Views.{Call, Gave, Failed, HandleView, Miss, ShelfView, missed}
use Rattle.gcx_io.specs.Writing.{IsSomeBytes, joined}
use Rattle.gcx_words.specs.Words.{command_of}
use Rattle.gcx_words.specs.declared.command.Command.{Command}
use Rattle.gcx_words.specs.declared.command.Command.TheVariants.{Run}
use Rattle.run_words.specs.Reading.{ReadsOn}
use Rattle.run_words.specs.Stops.{Stop, More, EndAnswered, FaultAnswered, last_call, IsCalm}
use Rattle.gcx_cmd.specs.Does.{DoesIf, Does}
use Rattle.gcx_cmd.specs.World.{World}
use Rattle.gcx_cmd.specs.QueryDoes.{RefusesText, FailsInText, RunsOutInText, MissesDocument}
use Rattle.gcx_cmd.specs.Reads.{Reads, ReadsAsking, ReadsQuery, Opens, Misses, Within, PassesIn, most_of_query}
use Rattle.gcx_cmd.specs.RunDoes.{RunDoes, Runs}
use Rattle.gcx_cmd.specs.declared.status.Status.{Status}
use Rattle.gcx_cmd.specs.declared.status.Status.TheVariants as status

-- what a status says of how a reading stopped: a read fault exactly where it failed
abbrev pub IsTold : Stop → Status → Type 0
IsTold More s = s ≢ status.ReadFault
IsTold EndAnswered s = s ≢ status.ReadFault
IsTold FaultAnswered s = s ≡ status.ReadFault

-- all that can have happened to the files
pub data Shape (q d : List ℕ) (s : Status) (a b : ShelfView) : Type 0 where
  Nothing : s ≢ status.ReadFault → Opens 0 a b → Shape q d s a b
  NoQuery : s ≡ status.ReadFault → Misses 0 q a b → Shape q d s a b
  Query : (ps : List (List ℕ)) (stop : Stop) → IsTold stop s → Opens 1 a b → ReadsQuery q (length a.given) a b ps stop → Within ps ⊎ ((stop ≡ More) × PassesIn ps) → Shape q d s a b
  NoDoc : (ps : List (List ℕ)) → s ≡ status.ReadFault → Misses 1 d a b → ReadsQuery q (length a.given) a b ps EndAnswered → Within ps → Shape q d s a b
  Both : (qs ps : List (List ℕ)) (stop : Stop) → IsTold stop s → Opens 2 a b → ReadsQuery q (length a.given) a b qs EndAnswered → Within qs → Reads d (length a.given + 1) a b ps stop → Shape q d s a b

both_shape : (tracing : Bool) (ahead : ℕ) (q d : List ℕ) (s : Status) (a b : World) (r : Runs tracing ahead q d s a b) → IsTold r.stop s → Shape q d s a.shelf b.shelf
both_shape tracing ahead q d s a b r told =
    Both r.over.query.pieces r.pieces r.stop told r.over.two r.over.query.reads r.over.query.within r.over.doc

-- no read failed, where the status isn't that of a read fault
calm_told : (stop : Stop) (s : Status) → s ≢ status.ReadFault → IsCalm stop → IsTold stop s
calm_told More s other calm = other
calm_told EndAnswered s other calm = other
calm_told FaultAnswered s other calm = absurd calm

fails_shape : (q d : List ℕ) (a b : ShelfView) → FailsInText q a b → Shape q d status.ReadFault a b
fails_shape q d a b (inl gone) = NoQuery refl gone
fails_shape q d a b (inr (one, ps, reads, within)) = Query ps FaultAnswered refl one reads (inl within)

misses_shape : (q d : List ℕ) (a b : ShelfView) → MissesDocument q (Some d) a b → Shape q d status.ReadFault a b
misses_shape q d a b (n, e, gone, x, accepted) =
    let named : n ≡ d = cc in NoDoc accepted.pieces refl (subst (λ (m : List ℕ). Misses 1 m a b) named gone) accepted.reads accepted.within

refused_shape : (q d : List ℕ) (f : QueryFault) (a b : ShelfView) → RefusesText q f a b → Shape q d (status.QueryRefused f) a b
refused_shape q d f a b r = elim r.why [
  | inl whole ↦ Query r.pieces EndAnswered (λ e. cc) r.opens whole.0 (inl whole.1)
  | inr long ↦ Query r.pieces More (λ e. cc) r.opens long.0 (inr (refl, long.1))
]

out_shape : (q d : List ℕ) (a b : ShelfView) → RunsOutInText q a b → Shape q d status.Memory a b
out_shape q d a b (inl none) = Nothing (λ e. cc) none
out_shape q d a b (inr (one, ps, stop, reads, inl (calm, within))) = Query ps stop (calm_told stop status.Memory (λ e. cc) calm) one reads (inl within)
out_shape q d a b (inr (one, ps, stop, reads, inr (more, passes))) =
    Query ps stop (subst (λ (t : Stop). IsTold t status.Memory) (sym more) (λ e. cc)) one reads (inr (more, passes))

run_shape : (tracing : Bool) (ahead : ℕ) (q d : List ℕ) (s : Status) (a b : World) → RunDoes tracing ahead q d s a b → Shape q d s a.shelf b.shelf
run_shape tracing ahead q d status.Ok a b r = both_shape tracing ahead q d status.Ok a b r.0 (subst (λ (t : Stop). IsTold t status.Ok) (sym r.0.ends.0) (λ e. cc))
run_shape tracing ahead q d status.Usage a b r = absurd r
run_shape tracing ahead q d (status.QueryRefused f) a b r = refused_shape q d f a.shelf b.shelf r.1
run_shape tracing ahead q d (status.DocumentRefused f) a b r =
    both_shape tracing ahead q d (status.DocumentRefused f) a b r (calm_told r.stop (status.DocumentRefused f) (λ e. cc) r.ends.0)
run_shape tracing ahead q d status.ReadFault a b (inl (same, inl fails)) = fails_shape q d a.shelf b.shelf fails
run_shape tracing ahead q d status.ReadFault a b (inl (same, inr misses)) = misses_shape q d a.shelf b.shelf misses
run_shape tracing ahead q d status.ReadFault a b (inr r) =
    both_shape tracing ahead q d status.ReadFault a b r (subst (λ (t : Stop). IsTold t status.ReadFault) (sym r.ends.0) refl)
run_shape tracing ahead q d status.WriteFault a b r = both_shape tracing ahead q d status.WriteFault a b r (calm_told r.stop status.WriteFault (λ e. cc) r.ends.0)
run_shape tracing ahead q d status.Memory a b (inl (same, out)) = out_shape q d a.shelf b.shelf out
run_shape tracing ahead q d status.Memory a b (inr r) = both_shape tracing ahead q d status.Memory a b r (calm_told r.stop status.Memory (λ e. cc) r.ends.0)
run_shape tracing ahead q d (status.TraceRefused n) a b r = absurd r

-- whatever the status, the files saw one of these
pub shape : (tracing : Bool) (ahead : ℕ) (words : List (List ℕ)) (q d : List ℕ) (s : Status) (a b : World) → command_of words ≡ Some (Run tracing ahead q d)
    → Does words s a b → Shape q d s a.shelf b.shelf
shape tracing ahead words q d s a b asked does =
    let done : DoesIf (Some (Run tracing ahead q d)) s a does.between = subst (λ (o : Option Command). DoesIf o s a does.between) asked does.done in
    subst (λ (v : ShelfView). Shape q d s a.shelf v) (sym does.diagnosed.shelf) (run_shape tracing ahead q d s a does.between done.1)

no_longer : {X : Type 0} (xs : List X) (x : X) (ys : List X) → xs ≡ xs ++ x ∷ ys → ⊥
no_longer xs x ys e = absurd (omega (arith, ap length e, length-append xs (x ∷ ys)))

-- QUERY's attach failed, and then something was attached: the attach again, or DOC
pub attached_again : (q d : List ℕ) (s : Status) (a b : ShelfView) → Shape q d s a b → b.refused ≡ a.refused ++ missed q (length a.given) ∷ [] → length a.given < length b.given → ⊥
attached_again q d s a b (Nothing other none) e more = absurd (omega (arith, none.count, more))
attached_again q d s a b (NoQuery fits gone) e more = absurd (omega (arith, gone.count, more))
attached_again q d s a b (Query ps stop told one reads in_limit) e more = no_longer a.refused (missed q (length a.given)) [] (sym one.refused ∙ e)
attached_again q d s a b (NoDoc ps fits gone reads within) e more =
    let same : missed d (length a.given + 1) ≡ missed q (length a.given) = (same_from_push a.refused a.refused _ _ (sym gone.refused ∙ e)).1 in
    absurd (omega (arith, ap (λ (m : Miss). m.behind) same))
attached_again q d s a b (Both qs ps stop told two query within doc) e more = no_longer a.refused (missed q (length a.given)) [] (sym two.refused ∙ e)

-- an attach failed, and then an attach failed
pub missed_twice : (q d : List ℕ) (s : Status) (a b : ShelfView) (x y : Miss) → Shape q d s a b → b.refused ≡ a.refused ++ x ∷ y ∷ [] → ⊥
missed_twice q d s a b x y (Nothing other none) e = no_longer a.refused x (y ∷ []) (sym none.refused ∙ e)
missed_twice q d s a b x y (NoQuery fits gone) e = absurd (omega (arith, ap length (sym gone.refused ∙ e), length-append a.refused (x ∷ y ∷ []), length_push a.refused (missed q (length a.given + 0))))
missed_twice q d s a b x y (Query ps stop told one reads in_limit) e = no_longer a.refused x (y ∷ []) (sym one.refused ∙ e)
missed_twice q d s a b x y (NoDoc ps fits gone reads within) e = absurd (omega (arith, ap length (sym gone.refused ∙ e), length-append a.refused (x ∷ y ∷ []), length_push a.refused (missed d (length a.given + 1))))
missed_twice q d s a b x y (Both qs ps stop told two query within doc) e = no_longer a.refused x (y ∷ []) (sym two.refused ∙ e)

slice_get_past : {X : Type 0} (xs : List X) (k : ℕ) (x : X) → length xs ≤ k → slice_get xs k ≡ Some x → ⊥
slice_get_past [] k x past e = cc
slice_get_past (y ∷ xs) zero x past e = absurd (omega (arith, past))
slice_get_past (y ∷ xs) (suc k) x past e = slice_get_past xs k x (omega (arith, past)) e

-- QUERY was attached where DOC was to be
pub query_twice : (q d : List ℕ) (s : Status) (a b : ShelfView) (v : HandleView) → Shape q d s a b → q ≢ d → slice_get b.given (length a.given + 1) ≡ Some v → v.name ≡ q → ⊥
query_twice q d s a b v (Nothing calm none) other at named = slice_get_past b.given (length a.given + 1) v (omega (arith, none.count)) at
query_twice q d s a b v (NoQuery fits gone) other at named = slice_get_past b.given (length a.given + 1) v (omega (arith, gone.count)) at
query_twice q d s a b v (Query ps stop told one reads in_limit) other at named = slice_get_past b.given (length a.given + 1) v (omega (arith, one.count)) at
query_twice q d s a b v (NoDoc ps fits gone reads within) other at named = slice_get_past b.given (length a.given + 1) v (omega (arith, gone.count)) at
query_twice q d s a b v (Both qs ps stop told two query within doc) other at named =
    let same : doc.handle ≡ v = cc (doc.at, at) in other (sym named ∙ ap (λ (w : HandleView). w.name) (sym same) ∙ doc.named)

-- no third file
pub third_file : (q d : List ℕ) (s : Status) (a b : ShelfView) → Shape q d s a b → length a.given + 2 < length b.given → ⊥
third_file q d s a b (Nothing other none) more = absurd (omega (arith, none.count, more))
third_file q d s a b (NoQuery fits gone) more = absurd (omega (arith, gone.count, more))
third_file q d s a b (Query ps stop told one reads in_limit) more = absurd (omega (arith, one.count, more))
third_file q d s a b (NoDoc ps fits gone reads within) more = absurd (omega (arith, gone.count, more))
third_file q d s a b (Both qs ps stop told two query within doc) more = absurd (omega (arith, two.count, more))

-- the calls of a handle are these of a reading
pub record IsRead (s : Status) (v : HandleView) : Type 0 where
  pub pieces : List (List ℕ)
  pub stop : Stop
  pub told : stop ≡ FaultAnswered → s ≡ status.ReadFault
  pub some : All IsSomeBytes pieces
  pub asked : ℕ
  pub calls : v.calls ≡ map (Gave asked) pieces ++ last_call asked stop

is_read : {asked : ℕ} (s : Status) (name : List ℕ) (h : ℕ) (a b : ShelfView) (ps : List (List ℕ)) (stop : Stop) (v : HandleView) → (stop ≡ FaultAnswered → s ≡ status.ReadFault) → ReadsAsking asked name h a b ps stop → slice_get b.given h ≡ Some v → IsRead s v
is_read {asked = asked} s name h a b ps stop v told r at =
    let same : r.handle ≡ v = cc (r.at, at) in
    record { pieces = ps; stop = stop; told = told; some = r.some; asked = asked; calls = ap (λ (w : HandleView). w.calls) (sym same) ∙ r.calls }

handle_read : (q d : List ℕ) (s : Status) (a b : ShelfView) (k : ℕ) (v : HandleView) → Shape q d s a b → length a.given ≤ k → slice_get b.given k ≡ Some v → IsRead s v
handle_read q d s a b k v (Nothing other none) new at = absurd (slice_get_past b.given k v (omega (arith, none.count, new)) at)
handle_read q d s a b k v (NoQuery fits gone) new at = absurd (slice_get_past b.given k v (omega (arith, gone.count, new)) at)
handle_read q d s a b k v (Query ps stop told one reads in_limit) new at = elim (cases_order k (length a.given)) [
  | inl same ↦ is_read s q (length a.given) a b ps stop v (λ e. subst (λ (t : Stop). IsTold t s) e told) reads (subst (λ (i : ℕ). slice_get b.given i ≡ Some v) same at)
  | inr (inl less) ↦ absurd (omega (arith, new, less))
  | inr (inr more) ↦ absurd (slice_get_past b.given k v (omega (arith, one.count, more)) at)
]
handle_read q d s a b k v (NoDoc ps fits gone reads within) new at = elim (cases_order k (length a.given)) [
  | inl same ↦ is_read s q (length a.given) a b ps EndAnswered v (λ e. fits) reads (subst (λ (i : ℕ). slice_get b.given i ≡ Some v) same at)
  | inr (inl less) ↦ absurd (omega (arith, new, less))
  | inr (inr more) ↦ absurd (slice_get_past b.given k v (omega (arith, gone.count, more)) at)
]
handle_read q d s a b k v (Both qs ps stop told two query within doc) new at = elim (cases_order k (length a.given)) [
  | inl same ↦ is_read s q (length a.given) a b qs EndAnswered v (λ e. absurd (cc)) query (subst (λ (i : ℕ). slice_get b.given i ≡ Some v) same at)
  | inr (inl less) ↦ absurd (omega (arith, new, less))
  | inr (inr more) ↦ (elim (cases_order k (length a.given + 1)) [
    | inl same ↦ is_read s d (length a.given + 1) a b ps stop v (λ e. subst (λ (t : Stop). IsTold t s) e told) doc (subst (λ (i : ℕ). slice_get b.given i ≡ Some v) same at)
    | inr (inl less) ↦ absurd (omega (arith, more, less))
    | inr (inr past) ↦ absurd (slice_get_past b.given k v (omega (arith, two.count, past)) at)
  ])
]

ends_at_fault : (asked : ℕ) (ps : List (List ℕ)) (stop : Stop) (pre : List Call) (c : Call) (rest : List Call) → map (Gave asked) ps ++ last_call asked stop ≡ pre ++ Failed ∷ c ∷ rest → ⊥
ends_at_fault asked [] More [] c rest e = cc
ends_at_fault asked [] More (x ∷ pre) c rest e = cc
ends_at_fault asked [] EndAnswered [] c rest e = cc
ends_at_fault asked [] EndAnswered (x ∷ pre) c rest e = absurd (omega (arith, ap length e, length-append pre (Failed ∷ c ∷ rest)))
ends_at_fault asked [] FaultAnswered [] c rest e = cc
ends_at_fault asked [] FaultAnswered (x ∷ pre) c rest e = absurd (omega (arith, ap length e, length-append pre (Failed ∷ c ∷ rest)))
ends_at_fault asked (p ∷ ps) stop [] c rest e = cc
ends_at_fault asked (p ∷ ps) stop (x ∷ pre) c rest e = (let f : map (Gave asked) ps ++ last_call asked stop ≡ pre ++ Failed ∷ c ∷ rest = cc in ends_at_fault asked ps stop pre c rest f)

-- a read failed, and then a read of the same file came
pub read_again : (q d : List ℕ) (s : Status) (a b : ShelfView) (k : ℕ) (v : HandleView) (pre rest : List Call) (c : Call) → Shape q d s a b → length a.given ≤ k → slice_get b.given k ≡ Some v
    → v.calls ≡ pre ++ Failed ∷ c ∷ rest → ⊥
read_again q d s a b k v pre rest c sh new at e = let r = handle_read q d s a b k v sh new at in ends_at_fault r.asked r.pieces r.stop pre c rest (sym r.calls ∙ e)

ends_at_end : (asked n : ℕ) (ps : List (List ℕ)) (stop : Stop) (pre : List Call) (c : Call) (rest : List Call) → All IsSomeBytes ps → map (Gave asked) ps ++ last_call asked stop ≡ pre ++ Gave n [] ∷ c ∷ rest → ⊥
ends_at_end asked n [] More [] c rest some e = cc
ends_at_end asked n [] More (x ∷ pre) c rest some e = cc
ends_at_end asked n [] EndAnswered [] c rest some e = cc
ends_at_end asked n [] EndAnswered (x ∷ pre) c rest some e = absurd (omega (arith, ap length e, length-append pre (Gave n [] ∷ c ∷ rest)))
ends_at_end asked n [] FaultAnswered [] c rest some e = cc
ends_at_end asked n [] FaultAnswered (x ∷ pre) c rest some e = absurd (omega (arith, ap length e, length-append pre (Gave n [] ∷ c ∷ rest)))
ends_at_end asked n (p ∷ ps) stop [] c rest some e = (let empty : p ≡ [] = cc in subst IsSomeBytes empty (some 0 [] (omega arith)))
ends_at_end asked n (p ∷ ps) stop (x ∷ pre) c rest some e = (let f : map (Gave asked) ps ++ last_call asked stop ≡ pre ++ Gave n [] ∷ c ∷ rest = cc in
    ends_at_end asked n ps stop pre c rest (λ k d within. some (suc k) d (omega (arith, within))) f)

-- the end was answered, and then a read of the same file came
pub read_behind_the_end : (q d : List ℕ) (s : Status) (a b : ShelfView) (k : ℕ) (v : HandleView) (pre rest : List Call) (n : ℕ) (c : Call) → Shape q d s a b → length a.given ≤ k → slice_get b.given k ≡ Some v
    → v.calls ≡ pre ++ Gave n [] ∷ c ∷ rest → ⊥
read_behind_the_end q d s a b k v pre rest n c sh new at e = let r = handle_read q d s a b k v sh new at in ends_at_end r.asked n r.pieces r.stop pre c rest r.some (sym r.calls ∙ e)

-- these pieces are a prefix of those
record Front (ps qs : List (List ℕ)) : Type 0 where
  pub more : List (List ℕ)
  pub is : qs ≡ ps ++ more

joined_both : (ps qs : List (List ℕ)) → joined (ps ++ qs) ≡ joined ps ++ joined qs
joined_both [] qs = refl
joined_both (p ∷ ps) qs = ap (λ (l : List ℕ). p ++ l) (joined_both ps qs) ∙ sym (append_assoc p (joined ps) (joined qs))

front : (asked : ℕ) (qs : List (List ℕ)) (stop : Stop) (ps : List (List ℕ)) (c : Call) (rest : List Call) → map (Gave asked) qs ++ last_call asked stop ≡ map (Gave asked) ps ++ c ∷ rest → Front ps qs
front asked qs stop [] c rest e = record { more = qs; is = refl }
front asked [] More (p ∷ ps) c rest e = absurd (cc)
front asked [] EndAnswered (p ∷ ps) c rest e = absurd (omega (arith, ap length e, length-append (map (Gave asked) ps) (c ∷ rest)))
front asked [] FaultAnswered (p ∷ ps) c rest e = absurd (cc)
front asked (r ∷ qs) stop (p ∷ ps) c rest e =
    let f : map (Gave asked) qs ++ last_call asked stop ≡ map (Gave asked) ps ++ c ∷ rest = cc in let same : r ≡ p = cc in let g = front asked qs stop ps c rest f in
    record { more = g.more; is = ap (λ (l : List (List ℕ)). r ∷ l) g.is ∙ ap (λ (x : List ℕ). x ∷ ps ++ g.more) same }

front_short : (ps qs : List (List ℕ)) → Front ps qs → length (joined ps) ≤ length (joined qs)
front_short ps qs f = omega (arith, ap (λ (l : List (List ℕ)). length (joined l)) f.is, ap length (joined_both ps f.more), length-append (joined ps) (joined f.more))

front_before : (asked : ℕ) (ps before : List (List ℕ)) (last : List ℕ) (c : Call) (rest : List Call) → map (Gave asked) (before ++ last ∷ []) ≡ map (Gave asked) ps ++ c ∷ rest → Front ps before
front_before asked [] before last c rest e = record { more = before; is = refl }
front_before asked (p ∷ ps) [] last c rest e = absurd (omega (arith, ap length e, length-append (map (Gave asked) ps) (c ∷ rest)))
front_before asked (p ∷ ps) (r ∷ before) last c rest e =
    let f : map (Gave asked) (before ++ last ∷ []) ≡ map (Gave asked) ps ++ c ∷ rest = cc in let same : r ≡ p = cc in let g = front_before asked ps before last c rest f in
    record { more = g.more; is = ap (λ (l : List (List ℕ)). r ∷ l) g.is ∙ ap (λ (x : List ℕ). x ∷ ps ++ g.more) same }

-- more than the limit was read of QUERY, and then a read came
pub read_behind_the_limit : (q d : List ℕ) (s : Status) (a b : ShelfView) (v : HandleView) (ps : List (List ℕ)) (c : Call) (rest : List Call) → Shape q d s a b → slice_get b.given (length a.given) ≡ Some v
    → v.calls ≡ map (Gave 4096) ps ++ c ∷ rest → most_of_query < length (joined ps) → ⊥
read_behind_the_limit q d s a b v ps c rest (Nothing other none) at e past = slice_get_past b.given (length a.given) v (omega (arith, none.count)) at
read_behind_the_limit q d s a b v ps c rest (NoQuery fits gone) at e past = slice_get_past b.given (length a.given) v (omega (arith, gone.count)) at
read_behind_the_limit q d s a b v ps c rest (Query qs stop told one reads (inl within)) at e past =
    let same : v ≡ reads.handle = cc (reads.at, at) in
    absurd (omega (arith, front_short ps qs (front 4096 qs stop ps c rest (sym reads.calls ∙ ap (λ (w : HandleView). w.calls) (sym same) ∙ e)), within, past))
read_behind_the_limit q d s a b v ps c rest (Query qs stop told one reads (inr (more, passes))) at e past =
    let same : v ≡ reads.handle = cc (reads.at, at) in
    let calls : map (Gave 4096) qs ++ [] ≡ map (Gave 4096) ps ++ c ∷ rest =
    subst (λ (t : Stop). map (Gave 4096) qs ++ last_call 4096 t ≡ map (Gave 4096) ps ++ c ∷ rest) more (sym reads.calls ∙ ap (λ (w : HandleView). w.calls) (sym same) ∙ e) in
    let calls' : map (Gave 4096) (passes.before ++ passes.last ∷ []) ≡ map (Gave 4096) ps ++ c ∷ rest = ap (map (Gave 4096)) (sym passes.split) ∙ sym (append-nil (map (Gave 4096) qs)) ∙ calls in
    absurd (omega (arith, front_short ps passes.before (front_before 4096 ps passes.before passes.last c rest calls'), passes.within, past))
read_behind_the_limit q d s a b v ps c rest (NoDoc qs fits gone reads within) at e past =
    let same : v ≡ reads.handle = cc (reads.at, at) in
    absurd (omega (arith, front_short ps qs (front 4096 qs EndAnswered ps c rest (sym reads.calls ∙ ap (λ (w : HandleView). w.calls) (sym same) ∙ e)), within, past))
read_behind_the_limit q d s a b v ps c rest (Both qs ds stop told two reads within doc) at e past =
    let same : v ≡ reads.handle = cc (reads.at, at) in
    absurd (omega (arith, front_short ps qs (front 4096 qs EndAnswered ps c rest (sym reads.calls ∙ ap (λ (w : HandleView). w.calls) (sym same) ∙ e)), within, past))

fault_last : (asked : ℕ) (ps : List (List ℕ)) (stop : Stop) (pre : List Call) → map (Gave asked) ps ++ last_call asked stop ≡ pre ++ Failed ∷ [] → stop ≡ FaultAnswered
fault_last asked [] More [] e = absurd (cc)
fault_last asked [] More (x ∷ pre) e = absurd (cc)
fault_last asked [] EndAnswered [] e = absurd (cc)
fault_last asked [] EndAnswered (x ∷ pre) e = absurd (omega (arith, ap length e, length-append pre (Failed ∷ [])))
fault_last asked [] FaultAnswered pre e = refl
fault_last asked (p ∷ ps) stop [] e = absurd (cc)
fault_last asked (p ∷ ps) stop (x ∷ pre) e = (let f : map (Gave asked) ps ++ last_call asked stop ≡ pre ++ Failed ∷ [] = cc in fault_last asked ps stop pre f)

-- the last call of a handle that was given failed, or an attach did
pub data Fails (a b : ShelfView) : Type 0 where
  InAttach : length a.refused < length b.refused → Fails a b
  InRead : (k : ℕ) (v : HandleView) (pre : List Call) → length a.given ≤ k → slice_get b.given k ≡ Some v → v.calls ≡ pre ++ Failed ∷ [] → Fails a b

-- a failed call of the files makes a read fault
pub fault_is_told : (q d : List ℕ) (s : Status) (a b : ShelfView) → Shape q d s a b → Fails a b → s ≡ status.ReadFault
fault_is_told q d s a b (Nothing other none) (InAttach more) = absurd (omega (arith, more, ap length none.refused))
fault_is_told q d s a b (NoQuery fits gone) (InAttach more) = fits
fault_is_told q d s a b (Query ps stop told one reads in_limit) (InAttach more) = absurd (omega (arith, more, ap length one.refused))
fault_is_told q d s a b (NoDoc ps fits gone reads within) (InAttach more) = fits
fault_is_told q d s a b (Both qs ps stop told two query within doc) (InAttach more) = absurd (omega (arith, more, ap length two.refused))
fault_is_told q d s a b sh (InRead k v pre new at e) =
    let r = handle_read q d s a b k v sh new at in r.told (fault_last r.asked r.pieces r.stop pre (sym r.calls ∙ e))

stopped : {asked : ℕ} (name : List ℕ) (h : ℕ) (s : Status) (a b : ShelfView) (ps : List (List ℕ)) (stop : Stop) → IsTold stop s → s ≡ status.ReadFault → length a.given ≤ h → ReadsAsking asked name h a b ps stop → Fails a b
stopped name h s a b ps More told fault new r = absurd (told fault)
stopped name h s a b ps EndAnswered told fault new r = absurd (told fault)
stopped {asked = asked} name h s a b ps FaultAnswered told fault new r = InRead h r.handle (map (Gave asked) ps) new r.at r.calls

-- and nothing else does
pub told_is_fault : (q d : List ℕ) (s : Status) (a b : ShelfView) → Shape q d s a b → s ≡ status.ReadFault → Fails a b
told_is_fault q d s a b (Nothing other none) fault = absurd (other fault)
told_is_fault q d s a b (NoQuery fits gone) fault = InAttach (omega (arith, ap length gone.refused, length_push a.refused (missed q (length a.given + 0))))
told_is_fault q d s a b (Query ps stop told one reads in_limit) fault = stopped q (length a.given) s a b ps stop told fault (omega arith) reads
told_is_fault q d s a b (NoDoc ps fits gone reads within) fault = InAttach (omega (arith, ap length gone.refused, length_push a.refused (missed d (length a.given + 1))))
told_is_fault q d s a b (Both qs ps stop told two query within doc) fault = stopped d (length a.given + 1) s a b ps stop told fault (omega arith) doc

-- ---- DOC

some_split : (qs : List (List ℕ)) → (qs ≡ []) ⊎ ((before : List (List ℕ)) × (last : List ℕ) × (qs ≡ before ++ last ∷ []))
some_split [] = inl refl
some_split (r ∷ qs) = elim (some_split qs) [
  | inl none ↦ inr ([], r, ap (λ (l : List (List ℕ)). r ∷ l) none)
  | inr more ↦ inr (r ∷ more.0, more.1, ap (λ (l : List (List ℕ)). r ∷ l) more.2)
]

-- what begins with a fault has one
no_clean : (ps qs : List (List ℕ)) (f : DocFault) → Front ps qs → FaultIs full_limits (joined ps) false (Some f) → FaultIs full_limits (joined qs) false None → ⊥
no_clean ps qs f w fault clean =
    let is : joined qs ≡ joined ps ++ joined w.more = ap joined w.is ∙ joined_both ps w.more in
    let on : FaultIs full_limits (joined ps ++ joined w.more) false (Some f) = fault_stays full_limits (joined ps) (joined w.more) false f fault in
    let none : FaultIs full_limits (joined ps ++ joined w.more) false None = subst (λ (l : List ℕ). FaultIs full_limits l false None) is clean in
    let same : None ≡ Some f = fault_one full_limits (joined ps ++ joined w.more) false None (Some f) none on in
    cc

behind_fault : (asked : ℕ) (qs ps : List (List ℕ)) (stop : Stop) (c : Call) (rest : List Call) (f : DocFault) → ReadsOn full_limits qs stop
    → map (Gave asked) qs ++ last_call asked stop ≡ map (Gave asked) ps ++ c ∷ rest → FaultIs full_limits (joined ps) false (Some f) → ⊥
behind_fault asked qs ps More c rest f on e fault = elim (some_split qs) [
  | inl none ↦ (let empty : map (Gave asked) [] ++ [] ≡ map (Gave asked) ps ++ c ∷ rest = subst (λ (l : List (List ℕ)). map (Gave asked) l ++ [] ≡ map (Gave asked) ps ++ c ∷ rest) none e in
      absurd (omega (arith, ap length empty, length-append (map (Gave asked) ps) (c ∷ rest))))
  | inr more ↦ (let calls : map (Gave asked) (more.0 ++ more.1 ∷ []) ≡ map (Gave asked) ps ++ c ∷ rest = ap (map (Gave asked)) (sym more.2) ∙ sym (append-nil (map (Gave asked) qs)) ∙ e in
      no_clean ps more.0 f (front_before asked ps more.0 more.1 c rest calls) fault (on.earlier more.0 more.1 more.2))
]
behind_fault asked qs ps EndAnswered c rest f on e fault = no_clean ps qs f (front asked qs EndAnswered ps c rest e) fault (on.unfaulted (λ is. cc))
behind_fault asked qs ps FaultAnswered c rest f on e fault = no_clean ps qs f (front asked qs FaultAnswered ps c rest e) fault (on.unfaulted (λ is. cc))

-- bytes of DOC that have a fault, or pass a limit, were read, and then a call came
pub read_behind_the_document : (tracing : Bool) (ahead : ℕ) (q d : List ℕ) (s : Status) (a b : World) (v : HandleView) (ps : List (List ℕ)) (c : Call) (rest : List Call) (f : DocFault)
    → Runs tracing ahead q d s a b → slice_get b.shelf.given (length a.shelf.given + 1) ≡ Some v → v.calls ≡ map (Gave 65536) ps ++ c ∷ rest
    → FaultIs full_limits (joined ps) false (Some f) → ⊥
read_behind_the_document tracing ahead q d s a b v ps c rest f r at calls fault =
    let same : v ≡ r.over.doc.handle = cc (r.over.doc.at, at) in
    behind_fault 65536 r.pieces ps r.stop c rest f r.over.reads_on (sym r.over.doc.calls ∙ ap (λ (w : HandleView). w.calls) (sym same) ∙ calls) fault

asked_alike : (asked n : ℕ) (ps : List (List ℕ)) (stop : Stop) (pre : List Call) (p : List ℕ) (rest : List Call) → map (Gave asked) ps ++ last_call asked stop ≡ pre ++ Gave n p ∷ rest → n ≡ asked
asked_alike asked n [] More [] p rest e = absurd (cc)
asked_alike asked n [] More (x ∷ pre) p rest e = absurd (cc)
asked_alike asked n [] EndAnswered [] p rest e = cc
asked_alike asked n [] EndAnswered (x ∷ pre) p rest e = absurd (omega (arith, ap length e, length-append pre (Gave n p ∷ rest)))
asked_alike asked n [] FaultAnswered [] p rest e = absurd (cc)
asked_alike asked n [] FaultAnswered (x ∷ pre) p rest e = absurd (omega (arith, ap length e, length-append pre (Gave n p ∷ rest)))
asked_alike asked n (q ∷ ps) stop [] p rest e = cc
asked_alike asked n (q ∷ ps) stop (x ∷ pre) p rest e = (let f : map (Gave asked) ps ++ last_call asked stop ≡ pre ++ Gave n p ∷ rest = cc in asked_alike asked n ps stop pre p rest f)

-- each read of DOC asks for 65,536 bytes
pub read_of_another_size : (tracing : Bool) (ahead : ℕ) (q d : List ℕ) (s : Status) (a b : World) (v : HandleView) (n : ℕ) (p : List ℕ) (pre rest : List Call) → Runs tracing ahead q d s a b
    → slice_get b.shelf.given (length a.shelf.given + 1) ≡ Some v → v.calls ≡ pre ++ Gave n p ∷ rest → n ≡ 65536
read_of_another_size tracing ahead q d s a b v n p pre rest r at calls =
    let same : r.over.doc.handle ≡ v = cc (r.over.doc.at, at) in
    asked_alike 65536 n r.pieces r.stop pre p rest (sym r.over.doc.calls ∙ ap (λ (w : HandleView). w.calls) same ∙ calls)
