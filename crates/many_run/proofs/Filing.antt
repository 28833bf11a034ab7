-- One write into a handle of a shelf: what is seen of that handle as a sink, and that nothing else changes.
use Rattle.std.proofs.Common.{◌≡◌, ◌≢◌, ℕ, zero, suc, ◌<◌, List, [], ◌∷◌, ◌++◌, inl, inr, length, map, take, slice_get, slice_set, Result, Ok, Err, Option, Some, None, refl, sym, ap, subst, ◌∙◌, arith}
use Rattle.std.specs.Prelude.{IsSome, OnOk, option_map, unwrap_or}
use Rattle.std.proofs.lemmas.List.{length-map}
use Rattle.std.proofs.lemmas.Option.{slice_get-map}
use Rattle.gcx_io.specs.Bytes.{Grows, WriteGrows}
use Rattle.gcx_io.specs.Calls.{WritesHandle, WritesOnce, write_call}
use Rattle.gcx_io.specs.Causes.{HasCause}
use Rattle.gcx_io.specs.Shelf.{Appends, IsTelling, Names, OthersStay, Stays, WriteExtends}
use Rattle.gcx_io.specs.Views.{Call, Denied, Failed, Gave, HandleCalls, HandleView, ShelfView, Took, calls_at, calls_of}
use Rattle.many_run.specs.Files.{NamesStay, bytes_in, failures, name_of_handle, sink_at}
use Rattle.many_run.specs.Runs.{WritesOnly}
use Rattle.many_run.proofs.Walking.{get_set, not_there, set_elsewhere, set_length, some_is, there}

-- ---- what a shelf says of its handles

pub record Told (s : ShelfView) (named left : ℕ → Option (List ℕ)) (count : ℕ) : Type 0 where
  pub count_is : length s.given ≡ count
  pub owners : (k : ℕ) (v : HandleView) → slice_get s.given k ≡ Some v → IsTelling s.names → named k ≡ Some v.name
  pub lefts : (k : ℕ) (v : HandleView) → slice_get s.given k ≡ Some v → left k ≡ v.left
  pub rests : (k : ℕ) → k < count → IsTelling s.names → IsSome (left k)

pub told_of : (s sv : ShelfView) (owners left : ℕ → Option (List ℕ)) (count : ℕ) → s ≡ sv → length sv.given ≡ count
    → ((k : ℕ) (v : HandleView) → slice_get sv.given k ≡ Some v → IsTelling sv.names → owners k ≡ Some v.name) → ((k : ℕ) (v : HandleView) → slice_get sv.given k ≡ Some v → left k ≡ v.left)
    → ((k : ℕ) → k < count → IsTelling sv.names → IsSome (left k)) → Told s owners left count
told_of s sv owners left count is n o l r =
    subst (λ (v : ShelfView). Told v owners left count) (sym is) (record { count_is = n; owners = o; lefts = l; rests = r })

-- ---- the names and the calls of handles

abbrev name_there : Option HandleCalls → Option (List ℕ)
name_there None = None
name_there (Some v) = Some v.name

abbrev calls_there : Option HandleCalls → List Call
calls_there None = []
calls_there (Some v) = v.calls

names_by : (given : List HandleView) (k : ℕ) → name_of_handle given k ≡ name_there (slice_get (map calls_of given) k)
names_by [] k = refl
names_by (v ∷ given) zero = refl
names_by (v ∷ given) (suc k) = names_by given k

calls_by : (given : List HandleView) (k : ℕ) → calls_at given k ≡ calls_there (slice_get (map calls_of given) k)
calls_by [] k = refl
calls_by (v ∷ given) zero = refl
calls_by (v ∷ given) (suc k) = calls_by given k

pub name_is : (given : List HandleView) (k : ℕ) (v : HandleView) → slice_get given k ≡ Some v → name_of_handle given k ≡ Some v.name
name_is [] k v at = absurd (cc)
name_is (x ∷ given) zero v at = ap (λ (o : Option HandleView). name_of o) at
  where
    name_of : Option HandleView → Option (List ℕ)
    name_of None = None
    name_of (Some y) = Some y.name
name_is (x ∷ given) (suc k) v at = name_is given k v at

pub calls_are : (given : List HandleView) (k : ℕ) (v : HandleView) → slice_get given k ≡ Some v → calls_at given k ≡ v.calls
calls_are given k v at = calls_by given k ∙ ap calls_there (slice_get-map calls_of given k ∙ ap (option_map calls_of) at)

pub calls_same : (xs ys : List HandleView) (k : ℕ) → slice_get ys k ≡ slice_get xs k → calls_at ys k ≡ calls_at xs k
calls_same xs ys k same =
    calls_by ys k ∙ (ap calls_there (slice_get-map calls_of ys k ∙ (ap (option_map calls_of) same ∙ sym (slice_get-map calls_of xs k))) ∙ sym (calls_by xs k))

set_name : (l : List HandleCalls) (h k : ℕ) (z v : HandleCalls) → slice_get l h ≡ Some v → z.name ≡ v.name → name_there (slice_get (slice_set l h z) k) ≡ name_there (slice_get l k)
set_name [] h k z v at same = refl
set_name (x ∷ l) zero zero z v at same = ap Some same ∙ sym (ap name_there at)
set_name (x ∷ l) zero (suc k) z v at same = refl
set_name (x ∷ l) (suc h) zero z v at same = refl
set_name (x ∷ l) (suc h) (suc k) z v at same = set_name l h k z v at same

-- ---- the calls that failed

no_failure : (xs : List Call) (p : List ℕ) → failures (xs ++ Took p ∷ []) ≡ failures xs
no_failure [] p = refl
no_failure (Gave n q ∷ xs) p = no_failure xs p
no_failure (Took q ∷ xs) p = no_failure xs p
no_failure (Denied q ∷ xs) p = ap suc (no_failure xs p)
no_failure (Failed ∷ xs) p = no_failure xs p

one_failure : (xs : List Call) (p : List ℕ) → failures (xs ++ Denied p ∷ []) ≡ suc (failures xs)
one_failure [] p = refl
one_failure (Gave n q ∷ xs) p = one_failure xs p
one_failure (Took q ∷ xs) p = one_failure xs p
one_failure (Denied q ∷ xs) p = ap suc (one_failure xs p)
one_failure (Failed ∷ xs) p = one_failure xs p

cause_here : {E : Type 0} (xs : List Call) (r : Result ℕ E) (piece : List ℕ) → HasCause (failures xs) (failures (xs ++ write_call r piece ∷ [])) r
cause_here xs (Ok n) piece = record { later = omega (arith, no_failure xs (take n piece)); failed = tt }
cause_here xs (Err e) piece = record { later = omega (arith, one_failure xs piece); failed = omega (arith, one_failure xs piece) }

calm_here : {E : Type 0} (xs : List Call) (r : Result ℕ E) (piece : List ℕ) → OnOk r (failures (xs ++ write_call r piece ∷ []) ≡ failures xs)
calm_here xs (Ok n) piece = no_failure xs (take n piece)
calm_here xs (Err e) piece = tt

-- ---- what the names hold

pub telling_back : (P : List ℕ → Type 0) (a b : Names) → NamesStay P a b → IsTelling b → IsTelling a
telling_back P None None stay telling = telling
telling_back P None (Some y) stay telling = absurd stay
telling_back P (Some x) b stay telling = tt

pub names_same : (P : List ℕ → Type 0) (a : Names) → NamesStay P a a
names_same P None = tt
names_same P (Some x) = (λ name none. none, λ name other. refl)

pub names_on : (P Q R : List ℕ → Type 0) (a b c : Names) → ((name : List ℕ) → R name → P name × Q name) → NamesStay P a b → NamesStay Q b c → NamesStay R a c
names_on P Q R a b None both first second = tt
names_on P Q R None None (Some z) both first second = absurd second
names_on P Q R (Some x) None (Some z) both first second = absurd second
names_on P Q R None (Some y) (Some z) both first second = absurd first
names_on P Q R (Some x) (Some y) (Some z) both first second =
    (λ name none. first.0 name (second.0 name none), λ name other. second.1 name (both name other).1 ∙ first.1 name (both name other).0)

grown_at : (a b : Names) (name owner : Option (List ℕ)) (bytes : List ℕ) → (IsTelling a → owner ≡ name) → Appends a b owner bytes → Grows (bytes_in a name) (bytes_in b name) bytes
grown_at None None name owner bytes own grew = tt
grown_at None (Some y) name owner bytes own grew = absurd grew
grown_at (Some x) None None owner bytes own grew = tt
grown_at (Some x) None (Some n) owner bytes own grew = tt
grown_at (Some x) (Some y) None owner bytes own grew = tt
grown_at (Some x) (Some y) (Some n) owner bytes own grew = ap (λ (o : Option (List ℕ)). unwrap_or o []) (grew n (own tt)).0

grows_at : {E : Type 0} (a b : Names) (name owner : Option (List ℕ)) (r : Result ℕ E) (piece : List ℕ) → (IsTelling a → owner ≡ name) → WriteExtends a b owner r piece
    → WriteGrows (bytes_in a name) (bytes_in b name) r piece
grows_at a b name owner (Ok n) piece own grew = grown_at a b name owner (take n piece) own grew
grows_at a b name owner (Err e) piece own same = ap (λ (n : Names). bytes_in n name) same

-- of names that are not the owner's
appended : (a b : Names) (name owner : Option (List ℕ)) (n bytes : List ℕ) → name ≡ Some n → (IsTelling a → owner ≡ name) → Appends a b owner bytes → NamesStay (λ m. name ≢ Some m) a b
appended None None name owner n bytes is own grew = tt
appended None (Some y) name owner n bytes is own grew = absurd grew
appended (Some x) None name owner n bytes is own grew = tt
appended (Some x) (Some y) name owner n bytes is own grew =
    let held = grew n (own tt ∙ is) in
    (λ m none. sym (held.1 m (λ same. missing (y m) (y n) _ (ap y same) none held.0)) ∙ none, λ m other. held.1 m (λ same. other (is ∙ ap Some (sym same))))
  where
    missing : (o p : Option (List ℕ)) (z : List ℕ) → o ≡ p → o ≡ None → p ≡ Some z → ⊥
    missing o p z same none some = cc

extended : {E : Type 0} (a b : Names) (name owner : Option (List ℕ)) (n : List ℕ) (r : Result ℕ E) (piece : List ℕ) → name ≡ Some n → (IsTelling a → owner ≡ name) → WriteExtends a b owner r piece
    → NamesStay (λ m. name ≢ Some m) a b
extended a b name owner n (Ok k) piece is own grew = appended a b name owner n (take k piece) is own grew
extended a b name owner n (Err e) piece is own same = subst (λ (z : Names). NamesStay (λ m. name ≢ Some m) a z) (sym same) (names_same (λ m. name ≢ Some m) a)

-- ---- one write

module _ {E : Type 0} (h : ℕ) (a b : ShelfView) (r : Result ℕ E) (piece : List ℕ) (w : WritesHandle h a b r piece) where
  abbrev after : HandleCalls
  after = record { name = w.old.name; calls = w.old.calls ++ write_call r piece ∷ [] }

  was : slice_get (map calls_of a.given) h ≡ Some (calls_of w.old)
  was = slice_get-map calls_of a.given h ∙ ap (option_map calls_of) w.was

  count_kept : length b.given ≡ length a.given
  count_kept = sym (length-map b.given calls_of) ∙ (ap length w.given ∙ (set_length (map calls_of a.given) h after ∙ length-map a.given calls_of))

  names_kept : (k : ℕ) → name_of_handle b.given k ≡ name_of_handle a.given k
  names_kept k =
      names_by b.given k
      ∙ (ap (λ (l : List HandleCalls). name_there (slice_get l k)) w.given ∙ (set_name (map calls_of a.given) h k after (calls_of w.old) was refl ∙ sym (names_by a.given k)))

  calls_kept : (k : ℕ) → k ≢ h → calls_at b.given k ≡ calls_at a.given k
  calls_kept k other =
      calls_by b.given k
      ∙ (ap (λ (l : List HandleCalls). calls_there (slice_get l k)) w.given ∙ (ap calls_there (set_elsewhere (map calls_of a.given) h k after other) ∙ sym (calls_by a.given k)))

  calls_here : calls_at b.given h ≡ calls_at a.given h ++ write_call r piece ∷ []
  calls_here =
      calls_by b.given h
      ∙ (ap (λ (l : List HandleCalls). calls_there (slice_get l h)) w.given
      ∙ (ap calls_there (get_set (map calls_of a.given) h (calls_of w.old) after was) ∙ ap (λ (l : List Call). l ++ write_call r piece ∷ []) (sym (calls_are a.given h w.old w.was))))

  module _ (owners la lb : ℕ → Option (List ℕ)) (count : ℕ) (ta : Told a owners la count) (tb : Told b owners lb count) (held : WriteExtends a.names b.names (owners h) r piece) where
    own : IsTelling a.names → owners h ≡ name_of_handle a.given h
    own telling = ta.owners h w.old w.was telling ∙ sym (name_is a.given h w.old w.was)

    -- what is seen of the handle as a sink
    pub sink_writes : WritesOnce (sink_at h a) (sink_at h b) r piece
    sink_writes = record {
      calls = calls_here;
      taken = subst (λ (o : Option (List ℕ)). WriteGrows (bytes_in a.names (name_of_handle a.given h)) (bytes_in b.names o) r piece) (sym (names_kept h))
          (grows_at a.names b.names (name_of_handle a.given h) (owners h) r piece own held);
      faults = subst (λ (l : List Call). HasCause (failures (calls_at a.given h)) (failures l) r) (sym calls_here) (cause_here (calls_at a.given h) r piece);
      calm = subst (λ (l : List Call). OnOk r (failures l ≡ failures (calls_at a.given h))) (sym calls_here) (calm_here (calls_at a.given h) r piece);
    }

    names_stay : NamesStay (λ name. name_of_handle a.given h ≢ Some name) a.names b.names
    names_stay = extended a.names b.names (name_of_handle a.given h) (owners h) w.old.name r piece (name_is a.given h w.old w.was) own held

    -- what the others have left
    module _ (stay : OthersStay owners la lb count h) where
      left_kept : IsTelling b.names → (k : ℕ) (v u : HandleView) → slice_get a.given k ≡ Some v → slice_get b.given k ≡ Some u → name_of_handle a.given h ≢ Some v.name → u.left ≡ v.left
      left_kept telling k v u at then other =
          let here : IsTelling a.names = telling_back (λ name. name_of_handle a.given h ≢ Some name) a.names b.names names_stay telling in
          let few : k < count = let l = not_there a.given k v at in let n = ta.count_is in omega (arith, l, n) in
          sym (tb.lefts k u then)
          ∙ (stays_some (la k) (lb k) (tb.rests k few telling) (stay k few (λ same. other (sym (own here) ∙ (sym same ∙ ta.owners k v at here)))) ∙ ta.lefts k v at)
        where
          stays_some : (x y : Option (List ℕ)) → IsSome y → Stays x y → y ≡ x
          stays_some x y some (inl same) = same
          stays_some x None some (inr none) = absurd (cc)
          stays_some x (Some z) some (inr none) = absurd (cc)

      pub only_writes : b.refused ≡ a.refused → b.faults ≡ a.faults → WritesOnly h a b
      only_writes refused faults = record {
        count = count_kept;
        refused = refused;
        faults = faults;
        names = names_stay;
        names_of = names_kept;
        calls = calls_kept;
        left = left_kept;
        write_faults = w.write_faults.later;
      }

-- ---- several writes

pub only_same : (h : ℕ) (a : ShelfView) → WritesOnly h a a
only_same h a = record {
  count = refl;
  refused = refl;
  faults = refl;
  names = names_same (λ name. name_of_handle a.given h ≢ Some name) a.names;
  names_of = λ k. refl;
  calls = λ k other. refl;
  left = λ telling k v w at then other. ap (λ (x : HandleView). x.left) (some_is (slice_get a.given k) w v then at);
  write_faults = omega arith;
}

pub only_on : (h : ℕ) (a b c : ShelfView) → WritesOnly h a b → WritesOnly h b c → WritesOnly h a c
only_on h a b c f g = record {
  count = g.count ∙ f.count;
  refused = g.refused ∙ f.refused;
  faults = g.faults ∙ f.faults;
  names = names_on (λ name. name_of_handle a.given h ≢ Some name) (λ name. name_of_handle b.given h ≢ Some name) (λ name. name_of_handle a.given h ≢ Some name) a.names b.names c.names
      (λ name other. (other, λ same. other (sym (f.names_of h) ∙ same))) f.names g.names;
  names_of = λ k. g.names_of k ∙ f.names_of k;
  calls = λ k other. g.calls k other ∙ f.calls k other;
  left = λ telling k v w at then other.
      let few : k < length b.given = let l = not_there a.given k v at in let n = f.count in omega (arith, l, n) in
      let u = there b.given k few in
      let name : u.0.name ≡ v.name = one_name u.0.name v.name (sym (name_is b.given k u.0 u.1) ∙ (f.names_of k ∙ name_is a.given k v at)) in
      g.left telling k u.0 w u.1 then (λ same. other (sym (f.names_of h) ∙ (same ∙ ap Some name)))
      ∙ f.left (telling_back (λ n. name_of_handle b.given h ≢ Some n) b.names c.names g.names telling) k v u.0 at u.1 other;
  write_faults = let m = f.write_faults in let n = g.write_faults in omega (arith, m, n);
}
  where
    one_name : (x y : List ℕ) → Some x ≡ Some y → x ≡ y
    one_name x y same = cc

-- ---- one write, as the shelf's members tell it

extends_seen : {E : Type 0} (a b sa sb : ShelfView) (owner : Option (List ℕ)) (r : Result ℕ E) (piece : List ℕ) → a ≡ sa → b ≡ sb → WriteExtends sa.names sb.names owner r piece → WriteExtends a.names b.names owner r piece
extends_seen a b sa sb owner r piece x y held =
    subst (λ (s : ShelfView). WriteExtends s.names b.names owner r piece) (sym x) (subst (λ (s : ShelfView). WriteExtends sa.names s.names owner r piece) (sym y) held)

-- of a write
pub extends_by : {E : Type 0} (h : ℕ) (a b : ShelfView) (r : Result ℕ E) (piece : List ℕ) → WritesHandle h a b r piece → (sa sb : ShelfView) (owner : Option (List ℕ)) → a ≡ sa → b ≡ sb → WriteExtends sa.names sb.names owner r piece
    → WriteExtends a.names b.names owner r piece
extends_by h a b r piece w sa sb owner x y held = extends_seen a b sa sb owner r piece x y held

pub told_later : (b : ShelfView) (owners owners' left : ℕ → Option (List ℕ)) (count count' : ℕ) → Told b owners' left count' → owners' ≡ owners → count' ≡ count → Told b owners left count
told_later b owners owners' left count count' t same counted =
    subst (λ (n : ℕ). Told b owners left n) counted (subst (λ (o : ℕ → Option (List ℕ)). Told b o left count') same t)

module _ {E : Type 0} (h : ℕ) (a b c : ShelfView) (r : Result ℕ E) (piece : List ℕ) (owners lb lc : ℕ → Option (List ℕ)) (count : ℕ) (only : WritesOnly h a b) (w : WritesHandle h b c r piece) (tb : Told b owners lb count) (tc : Told c owners lc count)
    (held : WriteExtends b.names c.names (owners h) r piece) (stay : OthersStay owners lb lc count h) where
  -- behind others
  pub only_next : WritesOnly h a c
  only_next = only_on h a b c only (only_writes h b c r piece w owners lb lc count tb tc held stay w.refused w.faults)
