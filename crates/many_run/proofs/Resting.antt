-- What writes into some handles and reads of another leave as it was, and what the read one gave.
use Rattle.std.proofs.Common.{◌≡◌, ◌≢◌, ℕ, zero, suc, ◌<◌, ◌≤◌, List, [], ◌∷◌, ◌++◌, length, map, take, slice_get, slice_set, Result, Ok, Err, Option, Some, None, refl, sym, ap, subst, ◌∙◌, arith, append-nil}
use Rattle.std.proofs.KnownBytes.{Consumes-kept, Consumes-nil, Consumes-trans}
use Rattle.std.proofs.lemmas.List.{length-take-le, map_push}
use Rattle.std.proofs.lemmas.List.Elements.{All-push}
use Rattle.std.specs.Io.KnownBytes.{Consumes, IsAtEnd, Keeps}
use Rattle.std.specs.Prelude.{unwrap_or}
use Rattle.gcx_io.specs.Bytes.{Grows}
use Rattle.gcx_io.specs.Calls.{ReadsOnce}
use Rattle.gcx_io.specs.Causes.{Rose}
use Rattle.gcx_io.specs.Shelf.{IsTelling, Names}
use Rattle.gcx_io.specs.Views.{Call, Failed, Gave, HandleView, ShelfView, calls_at}
use Rattle.gcx_io.specs.Writing.{IsSomeBytes, Takes, joined}
use Rattle.gcx_io.specs.declared.shelf.Handle.{Handle}
use Rattle.gcx_io.proofs.Written.{is_some, joined_push}
use Rattle.run_words.specs.Reading.{CountsFault}
use Rattle.run_words.specs.Stops.{EndAnswered, FaultAnswered, More, Stop}
use Rattle.many_run.specs.Files.{HandleGave, HaveOtherNames, IsNoneOf, LeavesTheRest, NamesStay, bytes_in, failures, name_of_handle, sink_at}
use Rattle.many_run.specs.Runs.{WritesOnly}
use Rattle.many_run.proofs.Filing.{calls_are, calls_same, name_is, names_on, names_same, telling_back}
use Rattle.many_run.proofs.Walking.{get_set, not_there, set_elsewhere, set_length, some_is, there}

-- ---- the sink of another handle

-- nothing went to it
pub sink_rests : (a b : ShelfView) (k : ℕ) (P : List ℕ → Type 0) → NamesStay P a.names b.names → name_of_handle b.given k ≡ name_of_handle a.given k → calls_at b.given k ≡ calls_at a.given k
    → (IsTelling a.names → (n : List ℕ) → name_of_handle a.given k ≡ Some n → P n) → Takes (sink_at k a) (sink_at k b) []
sink_rests a b k P stay name calls other = record {
  pieces = [];
  some = λ i d few. absurd (omega (arith, few));
  calls = calls ∙ sym (append-nil (calls_at a.given k));
  whole = refl;
  told = subst (λ (o : Option (List ℕ)). Grows (bytes_in a.names (name_of_handle a.given k)) (bytes_in b.names o) []) (sym name) (held a.names b.names (name_of_handle a.given k) stay other);
  faults = ap failures calls;
}
  where
    held : (x y : Names) (o : Option (List ℕ)) → NamesStay P x y → (IsTelling x → (n : List ℕ) → o ≡ Some n → P n) → Grows (bytes_in x o) (bytes_in y o) []
    held None None o stay other = tt
    held None (Some y) o stay other = absurd stay
    held (Some x) None None stay other = tt
    held (Some x) None (Some n) stay other = tt
    held (Some x) (Some y) None stay other = tt
    held (Some x) (Some y) (Some n) stay other = ap (λ (z : Option (List ℕ)). unwrap_or z []) (stay.1 n (other tt n refl)) ∙ sym (append-nil (unwrap_or (x n) []))

-- a write into another handle
pub sink_aside : (h k : ℕ) (a b : ShelfView) → WritesOnly h a b → k ≢ h → (IsTelling a.names → name_of_handle a.given k ≢ name_of_handle a.given h) → Takes (sink_at k a) (sink_at k b) []
sink_aside h k a b w other names =
    sink_rests a b k (λ name. name_of_handle a.given h ≢ Some name) w.names (w.names_of k) (w.calls k other) (λ telling n is same. names telling (is ∙ sym same))

-- ---- all else

module _ (outs : List Handle) where
  pub rest_same : (R : ℕ → Type 0) (a : ShelfView) → LeavesTheRest R outs a a
  rest_same R a = record {
    count = refl;
    refused = refl;
    names = names_same (HaveOtherNames a outs) a.names;
    names_of = λ k. refl;
    calls = λ k unread none. refl;
    left = λ telling k v w unread at then other. ap (λ (x : HandleView). x.left) (some_is (slice_get a.given k) w v then at);
    faults = omega arith;
    write_faults = omega arith;
  }

  pub rest_on : (R : ℕ → Type 0) (a b c : ShelfView) → LeavesTheRest R outs a b → LeavesTheRest R outs b c → LeavesTheRest R outs a c
  rest_on R a b c f g = record {
    count = g.count ∙ f.count;
    refused = g.refused ∙ f.refused;
    names = names_on (HaveOtherNames a outs) (HaveOtherNames b outs) (HaveOtherNames a outs) a.names b.names c.names (λ name other. (other, others_on name other)) f.names g.names;
    names_of = λ k. g.names_of k ∙ f.names_of k;
    calls = λ k unread none. g.calls k unread none ∙ f.calls k unread none;
    left = λ telling k v w unread at then other.
        let few : k < length b.given = let l = not_there a.given k v at in let n = f.count in omega (arith, l, n) in
        let u = there b.given k few in
        let name : u.0.name ≡ v.name = one_name u.0.name v.name (sym (name_is b.given k u.0 u.1) ∙ (f.names_of k ∙ name_is a.given k v at)) in
        g.left telling k u.0 w unread u.1 then (subst (λ (n : List ℕ). HaveOtherNames b outs n) (sym name) (others_on v.name other))
        ∙ f.left (telling_back (HaveOtherNames b outs) b.names c.names g.names telling) k v u.0 unread at u.1 other;
    faults = let m = f.faults in let n = g.faults in omega (arith, m, n);
    write_faults = let m = f.write_faults in let n = g.write_faults in omega (arith, m, n);
  }
    where
      others_on : (name : List ℕ) → HaveOtherNames a outs name → HaveOtherNames b outs name
      others_on name other i o is same = other i o is (sym (f.names_of o.0) ∙ same)

      one_name : (x y : List ℕ) → Some x ≡ Some y → x ≡ y
      one_name x y same = cc

  -- more is read
  pub rest_wider : (R S : ℕ → Type 0) (a b : ShelfView) → ((k : ℕ) → R k → S k) → LeavesTheRest R outs a b → LeavesTheRest S outs a b
  rest_wider R S a b wider f = record {
    count = f.count;
    refused = f.refused;
    names = f.names;
    names_of = f.names_of;
    calls = λ k unread none. f.calls k (λ r. unread (wider k r)) none;
    left = λ telling k v w unread at then other. f.left telling k v w (λ r. unread (wider k r)) at then other;
    faults = f.faults;
    write_faults = f.write_faults;
  }

  -- one of the handles was written to
  pub rest_written : (a b : ShelfView) (i : ℕ) (o : Handle) → slice_get outs i ≡ Some o → WritesOnly o.0 a b → LeavesTheRest (λ k. ⊥) outs a b
  rest_written a b i o is w = record {
    count = w.count;
    refused = w.refused;
    names = names_on (λ name. name_of_handle a.given o.0 ≢ Some name) (λ name. name_of_handle a.given o.0 ≢ Some name) (HaveOtherNames a outs) a.names a.names b.names
        (λ name other. (other i o is, other i o is)) (names_same (λ name. name_of_handle a.given o.0 ≢ Some name) a.names) w.names;
    names_of = w.names_of;
    calls = λ k unread none. w.calls k (none i o is);
    left = λ telling k v u unread at then other. w.left telling k v u at then (other i o is);
    faults = let n = w.faults in omega (arith, n);
    write_faults = w.write_faults;
  }

-- ---- a read

module _ {E : Type 0} (d : ℕ) (a b : ShelfView) (r : Result ℕ E) (buf : List ℕ) (once : ReadsOnce d a b r buf) where
  read_here : slice_get b.given d ≡ Some once.new
  read_here = ap (λ (l : List HandleView). slice_get l d) once.given ∙ get_set a.given d once.old once.new once.was

  read_aside : (k : ℕ) → k ≢ d → slice_get b.given k ≡ slice_get a.given k
  read_aside k other = ap (λ (l : List HandleView). slice_get l k) once.given ∙ set_elsewhere a.given d k once.new other

  aside_calls : (k : ℕ) → k ≢ d → calls_at b.given k ≡ calls_at a.given k
  aside_calls k other = calls_same a.given b.given k (read_aside k other)

  pub read_names : (k : ℕ) → name_of_handle b.given k ≡ name_of_handle a.given k
  read_names k = ap (λ (l : List HandleView). name_of_handle l k) once.given ∙ set_by a.given d k once.old once.new once.was once.name
    where
      set_by : (l : List HandleView) (h k : ℕ) (v z : HandleView) → slice_get l h ≡ Some v → z.name ≡ v.name → name_of_handle (slice_set l h z) k ≡ name_of_handle l k
      set_by [] h k v z at same = refl
      set_by (x ∷ l) zero zero v z at same = ap Some same ∙ sym (name_is (x ∷ l) zero v at)
      set_by (x ∷ l) zero (suc k) v z at same = refl
      set_by (x ∷ l) (suc h) zero v z at same = refl
      set_by (x ∷ l) (suc h) (suc k) v z at same = set_by l h k v z at same

  pub read_sink : (k : ℕ) → k ≢ d → sink_at k b ≡ sink_at k a
  read_sink k other =
      ap (λ (l : List Call). record { calls = l; taken = bytes_in b.names (name_of_handle b.given k); faults = failures l }) (aside_calls k other)
      ∙ (ap (λ (o : Option (List ℕ)). record { calls = calls_at a.given k; taken = bytes_in b.names o; faults = failures (calls_at a.given k) }) (read_names k)
      ∙ ap (λ (n : Names). record { calls = calls_at a.given k; taken = bytes_in n (name_of_handle a.given k); faults = failures (calls_at a.given k) }) once.names)

  pub read_rest : (outs : List Handle) → LeavesTheRest (λ k. k ≡ d) outs a b
  read_rest outs = record {
    count = ap length once.given ∙ set_length a.given d once.new;
    refused = once.refused;
    names = subst (λ (n : Names). NamesStay (HaveOtherNames a outs) a.names n) (sym once.names) (names_same (HaveOtherNames a outs) a.names);
    names_of = read_names;
    calls = λ k unread none. aside_calls k unread;
    left = λ telling k v w unread at then other. ap (λ (x : HandleView). x.left) (some_is (slice_get b.given k) w v then (read_aside k unread ∙ at));
    faults = once.faults.later;
    write_faults = let n = once.write_faults in omega (arith, n);
  }

-- ---- what the handle gave

pub gave_none : (d : ℕ) (a : ShelfView) → d < length a.given → HandleGave d a a [] More
gave_none d a given =
    let v = there a.given d given in
    record {
      old = v.0;
      new = v.0;
      was = v.1;
      is = v.1;
      name = refl;
      some = λ i e few. absurd (omega (arith, few));
      calls = sym (append-nil (v.0.calls ++ []) ∙ append-nil v.0.calls);
      told = λ telling. Consumes-nil v.0.left;
      at_end = λ telling e. cc;
      faults = refl;
    }

-- other handles were written to, of other names
pub gave_written : (d : ℕ) (outs : List Handle) (a b c : ShelfView) (ps : List (List ℕ)) (stop : Stop) → HandleGave d a b ps stop → LeavesTheRest (λ k. ⊥) outs b c → IsNoneOf outs d
    → (IsTelling b.names → (i : ℕ) (o : Handle) → slice_get outs i ≡ Some o → name_of_handle b.given o.0 ≢ name_of_handle b.given d) → c.faults ≡ b.faults → HandleGave d a c ps stop
gave_written d outs a b c ps stop g f none apart faults =
    let few : d < length c.given = let l = not_there b.given d g.new g.is in let n = f.count in omega (arith, l, n) in
    let u = there c.given d few in
    record {
      old = g.old;
      new = u.0;
      was = g.was;
      is = u.1;
      name = one_name u.0.name g.old.name (sym (name_is c.given d u.0 u.1) ∙ (f.names_of d ∙ (name_is b.given d g.new g.is ∙ ap Some g.name)));
      some = g.some;
      calls = sym (calls_are c.given d u.0 u.1) ∙ (f.calls d (λ no. no) none ∙ (calls_are b.given d g.new g.is ∙ g.calls));
      told = λ telling. subst (λ (o : Option (List ℕ)). Consumes g.old.left o (joined ps)) (sym (left_same u.0 u.1 telling)) (g.told (back telling));
      at_end = λ telling e. subst (λ (o : Option (List ℕ)). IsAtEnd o) (sym (left_same u.0 u.1 telling)) (g.at_end (back telling) e);
      faults = subst (λ (n : ℕ). CountsFault stop a.faults n) (sym faults) g.faults;
    }
  where
    one_name : (x y : List ℕ) → Some x ≡ Some y → x ≡ y
    one_name x y same = cc

    back : IsTelling c.names → IsTelling b.names
    back telling = telling_back (HaveOtherNames b outs) b.names c.names f.names telling

    left_same : (u : HandleView) → slice_get c.given d ≡ Some u → IsTelling c.names → u.left ≡ g.new.left
    left_same u at telling = f.left telling d g.new u (λ no. no) g.is at (λ i o is same. apart (back telling) i o is (same ∙ sym (name_is b.given d g.new g.is)))

calls_on : (a b c : List Call) (ps : List (List ℕ)) (x : Call) → b ≡ a ++ map (Gave 65536) ps ++ [] → c ≡ b ++ x ∷ [] → c ≡ a ++ map (Gave 65536) ps ++ x ∷ []
calls_on a b c ps x first second = second ∙ ap (λ (l : List Call). l ++ x ∷ []) (first ∙ append-nil (a ++ map (Gave 65536) ps))

back_here : (b c : ShelfView) → IsTelling c.names → c.names ≡ b.names → IsTelling b.names
back_here b c telling same = subst (λ (n : Names). IsTelling n) same telling

module _ {E : Type 0} (d : ℕ) (a b c : ShelfView) (ps : List (List ℕ)) (g : HandleGave d a b ps More) where
  same_there : (r : Result ℕ E) (buf : List ℕ) (once : ReadsOnce d b c r buf) → once.old ≡ g.new
  same_there r buf once = some_is (slice_get b.given d) once.old g.new once.was g.is

  -- one piece more
  pub gave_more : (n : ℕ) (buf : List ℕ) → ReadsOnce {E = E} d b c (Ok n) buf → 1 ≤ n → n ≤ length buf → length buf ≡ 65536 → HandleGave d a c (ps ++ take n buf ∷ []) More
  gave_more n buf once some within size =
      let same = same_there (Ok n) buf once in
      record {
        old = g.old;
        new = once.new;
        was = g.was;
        is = read_here d b c (Ok n) buf once;
        name = once.name ∙ (ap (λ (v : HandleView). v.name) same ∙ g.name);
        some = All-push IsSomeBytes ps (take n buf) g.some (is_some (take n buf) (omega (arith, length-take-le n buf within)));
        calls = calls_on g.old.calls g.new.calls once.new.calls ps (Gave 65536 (take n buf)) g.calls
            (once.calls ∙ ap (λ (k : ℕ). once.old.calls ++ Gave k (take n buf) ∷ []) size ∙ ap (λ (v : HandleView). v.calls ++ Gave 65536 (take n buf) ∷ []) same)
            ∙ pushed g.old.calls ps (take n buf);
        told = λ telling. subst (Consumes g.old.left once.new.left) (sym (joined_push ps (take n buf)))
            (Consumes-trans g.old.left g.new.left once.new.left (joined ps) (take n buf) (g.told (back_here b c telling once.names)) (subst (λ (v : HandleView). Consumes v.left once.new.left (take n buf)) same once.left.0));
        at_end = λ telling e. cc;
        faults = once.calm ∙ g.faults;
      }
    where
      pushed : (xs : List Call) (ps : List (List ℕ)) (p : List ℕ) → xs ++ map (Gave 65536) ps ++ Gave 65536 p ∷ [] ≡ xs ++ map (Gave 65536) (ps ++ p ∷ []) ++ []
      pushed [] ps p = sym (map_push (Gave 65536) ps p) ∙ sym (append-nil (map (Gave 65536) (ps ++ p ∷ [])))
      pushed (x ∷ xs) ps p = ap (λ (l : List Call). x ∷ l) (pushed xs ps p)

  -- the end
  pub gave_end : (n : ℕ) (buf : List ℕ) → ReadsOnce {E = E} d b c (Ok n) buf → n ≡ 0 → length buf ≡ 65536 → HandleGave d a c ps EndAnswered
  gave_end n buf more none size =
      let once : ReadsOnce {E = E} d b c (Ok 0) buf = subst (λ (k : ℕ). ReadsOnce {E = E} d b c (Ok k) buf) none more in
      let same = same_there (Ok 0) buf once in
      record {
        old = g.old;
        new = once.new;
        was = g.was;
        is = read_here d b c (Ok 0) buf once;
        name = once.name ∙ (ap (λ (v : HandleView). v.name) same ∙ g.name);
        some = g.some;
        calls = calls_on g.old.calls g.new.calls once.new.calls ps (Gave 65536 []) g.calls
            (once.calls ∙ ap (λ (k : ℕ). once.old.calls ++ Gave k [] ∷ []) size ∙ ap (λ (v : HandleView). v.calls ++ Gave 65536 [] ∷ []) same);
        told = λ telling. subst (Consumes g.old.left once.new.left) (append-nil (joined ps))
            (Consumes-trans g.old.left g.new.left once.new.left (joined ps) [] (g.told (back_here b c telling once.names)) (subst (λ (v : HandleView). Consumes v.left once.new.left []) same once.left.0));
        at_end = λ telling e. once.left.1 refl (omega (arith, size));
        faults = once.calm ∙ g.faults;
      }

  -- a fault
  pub gave_fault : (e : E) (buf : List ℕ) → ReadsOnce {E = E} d b c (Err e) buf → HandleGave d a c ps FaultAnswered
  gave_fault e buf once =
      let same = same_there (Err e) buf once in
      record {
        old = g.old;
        new = once.new;
        was = g.was;
        is = read_here d b c (Err e) buf once;
        name = once.name ∙ (ap (λ (v : HandleView). v.name) same ∙ g.name);
        some = g.some;
        calls = calls_on g.old.calls g.new.calls once.new.calls ps Failed g.calls (once.calls ∙ ap (λ (v : HandleView). v.calls ++ Failed ∷ []) same);
        told = λ telling. Consumes-kept g.old.left g.new.left once.new.left (joined ps) (g.told (back_here b c telling once.names))
            (subst (λ (v : HandleView). Keeps v.left once.new.left) same once.left);
        at_end = λ telling f. cc;
        faults = subst (λ (k : ℕ). Rose k c.faults) g.faults once.faults.failed;
      }
