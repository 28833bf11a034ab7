-- What a reader stands for, from call to call.
use Rattle.std.proofs.Common.{ℕ, ◌≡◌, ◌-◌, ◌≤◌, inl, inr, Bool, true, false, List, [], ◌∷◌, ◌++◌, length, map, Option, Some, None, Result, Ok, Err, refl, sym, ap, ◌∙◌, subst, append_assoc, append-nil, arith}
use Rattle.std.specs.Option.{is_some}
use Rattle.std.proofs.lemmas.Bool.{false≢true, true≢false}
use Rattle.gcx_base.specs.declared.limits.Limits.{Limits}
use Rattle.gcx_model.specs.Tree.{TreeToken as Said}
use Rattle.gcx_model.specs.declared.fault.DocFault.{DocFault}
use Rattle.gcx_model.specs.declared.fault.DocFault.TheVariants as doc_faults
use Rattle.gcx_model.specs.Faults.{FaultIs, within_limit, size}
use Rattle.gcx_model.specs.Seen.{IsLongest}
use Rattle.doc_chars.specs.Stream.{StandsFor}
use Rattle.doc_laws.specs.Machine.{State, start, is_whole}
use Rattle.doc_laws.specs.States.{Fronts}
use Rattle.doc_laws.proofs.Faults.{start_reads}
use Rattle.doc_laws.proofs.LastTag.{longest_so_far}
use Rattle.doc_laws.proofs.Pieces.{Stands as Kept, fault_stays, end_cut, end_short, end_whole, stands_place}
use Rattle.doc_laws.proofs.Unique.{fault_one}
use Rattle.doc_tokens.specs.declared.token.Token.{Token}
use Rattle.doc_tokens.specs.declared.token.Token.TheVariants.{EndOfDocument}
use Rattle.doc_reader.specs.Standing.{ReaderView, end_token, waiting, with_given, Gives, GivesBy, IsFault, IsReading, HasRead, HasStopped, HasLost, GoesOnBy, ReaderGoesOn, Stands, IsRefused, with_tokens, given_token, said_of}
use Rattle.doc_reader.specs.Piece.{Took, IsSame, Ends}
use Rattle.doc_reader.proofs.Givings.{map-append, said-map, gives_open, gives_whole, gives_more}
use Rattle.doc_reader.proofs.Pieces.{kept_of, all_read, took_more, no_fault_yet}

some_none : (f : DocFault) → Some f ≡ None → ⊥
some_none f e = cc

-- the bytes have a fault, so the document doesn't end
pub no_document : (lim : Limits) (b : List ℕ) (f : DocFault) (ended : Bool) → FaultIs lim b ended (Some f) → ended ≡ true → FaultIs lim b true None → ⊥
no_document lim b f ended h e k = some_none f (fault_one lim b true (Some f) None (subst (λ o. FaultIs lim b o (Some f)) e h) k)

pub was_refused : (o : Option DocFault) → is_some o ≡ true → o ≡ None → ⊥
was_refused None e n = false≢true e
was_refused (Some f) e n = some_none f n

pub not_refused : (o : Option DocFault) → is_some o ≡ false → o ≡ None
not_refused None e = refl
not_refused (Some f) e = absurd (true≢false e)

-- a fault that comes at the end alone
abbrev SaysEnd : DocFault → Type 0
SaysEnd (doc_faults.Utf8 n) = Unit {0}
SaysEnd (doc_faults.Truncated n) = Unit {0}
SaysEnd other = ⊥

-- ---- what waits, by what the reader goes on from

gives_reading : (h : ReaderView) (lim : Limits) (b : List ℕ) (given : List Token) → IsReading h lim b given → Gives lim b false (given ++ (map given_token h.state.tokens ++ []))
gives_reading h lim b given r =
    gives_open h.state.tokens lim b r.chars false given (all_read h lim b given r) (longest_so_far lim b h.carry.bytes (with_given r.before h.state) (kept_of h lim b given r) r.within) (λ e k. false≢true e)

-- a refusal that isn't want of memory
gives_stopped : (waits : List Said) (lim : Limits) (b : List ℕ) (ended : Bool) (given : List Token) (f : DocFault) → HasStopped waits lim b given → FaultIs lim b ended (Some f) → Gives lim b ended (given ++ (map given_token waits ++ []))
gives_stopped waits lim b ended given f q k =
    gives_open waits lim b q.chars ended given q.read (subst (λ l. IsLongest lim l q.chars) (append-nil b) (q.longest [])) (no_document lim b f ended k)

gives_by : (o : Option DocFault) (h : ReaderView) (lim : Limits) (b : List ℕ) (given : List Token) → GoesOnBy o h lim b given → IsFault o lim b false → GivesBy o lim b false (given ++ (map given_token h.state.tokens ++ []))
gives_by None h lim b given q k = gives_reading h lim b given q
gives_by (Some doc_faults.Memory) h lim b given q k = gives_more h.state.tokens lim b q.chars false given q.read
gives_by (Some (doc_faults.Utf8 n)) h lim b given q k = gives_stopped h.state.tokens lim b false given (doc_faults.Utf8 n) q k
gives_by (Some (doc_faults.Syntax n)) h lim b given q k = gives_stopped h.state.tokens lim b false given (doc_faults.Syntax n) q k
gives_by (Some (doc_faults.Truncated n)) h lim b given q k = gives_stopped h.state.tokens lim b false given (doc_faults.Truncated n) q k
gives_by (Some (doc_faults.Depth n)) h lim b given q k = gives_stopped h.state.tokens lim b false given (doc_faults.Depth n) q k
gives_by (Some (doc_faults.NameLong n)) h lim b given q k = gives_stopped h.state.tokens lim b false given (doc_faults.NameLong n) q k
gives_by (Some (doc_faults.TextLong n)) h lim b given q k = gives_stopped h.state.tokens lim b false given (doc_faults.TextLong n) q k
gives_by (Some (doc_faults.TooLong n)) h lim b given q k = gives_stopped h.state.tokens lim b false given (doc_faults.TooLong n) q k

-- an open reader
pub stands_open : (h : ReaderView) (lim : Limits) (b : List ℕ) (given : List Token) → h.limits ≡ lim → h.finished ≡ false → h.end_waits ≡ false → GoesOnBy h.refused h lim b given → IsFault h.refused lim b false → Stands h lim b false given
stands_open h lim b given l f e q k = record {
  limits = l;
  finished = f;
  fault = k;
  gives = subst (λ (w : Bool). GivesBy h.refused lim b false (given ++ (map given_token h.state.tokens ++ end_token w))) (sym e) (gives_by h.refused h lim b given q k);
  goes_on = (e, q);
}

-- the refusal that came is kept
kept_by : (f : DocFault) (old new : ReaderView) (lim : Limits) (b : List ℕ) (given : List Token) → new.state ≡ old.state → GoesOnBy (Some f) old lim b given → GoesOnBy (Some f) new lim b given
kept_by doc_faults.Memory old new lim b given e q = subst (λ (s : State). HasLost s.tokens lim b given) (sym e) q
kept_by (doc_faults.Utf8 n) old new lim b given e q = subst (λ (s : State). HasStopped s.tokens lim b given) (sym e) q
kept_by (doc_faults.Syntax n) old new lim b given e q = subst (λ (s : State). HasStopped s.tokens lim b given) (sym e) q
kept_by (doc_faults.Truncated n) old new lim b given e q = subst (λ (s : State). HasStopped s.tokens lim b given) (sym e) q
kept_by (doc_faults.Depth n) old new lim b given e q = subst (λ (s : State). HasStopped s.tokens lim b given) (sym e) q
kept_by (doc_faults.NameLong n) old new lim b given e q = subst (λ (s : State). HasStopped s.tokens lim b given) (sym e) q
kept_by (doc_faults.TextLong n) old new lim b given e q = subst (λ (s : State). HasStopped s.tokens lim b given) (sym e) q
kept_by (doc_faults.TooLong n) old new lim b given e q = subst (λ (s : State). HasStopped s.tokens lim b given) (sym e) q

-- a new reader
pub stands_new : (h : ReaderView) (lim : Limits) → h.limits ≡ lim → h.state ≡ start → StandsFor h.carry [] [] → h.place ≡ 0 → h.count ≡ 0 → h.refused ≡ None → h.finished ≡ false → h.end_waits ≡ false → Stands h lim [] false []
stands_new h lim l s w p n r f e =
    let reads = start_reads lim in
    let reading : IsReading h lim [] [] = record {
      chars = [];
      stream = w;
      place = p;
      count = n;
      within = omega arith;
      clean = reads.clean;
      short = subst (λ (t : State). length t.run ≤ lim.text) (sym s) reads.short;
      before = [];
      given_are = refl;
      front = subst (λ (t : State). Fronts [] (with_given [] t)) (sym s) reads.front;
    } in
    stands_open h lim [] [] l f e (subst (λ o. GoesOnBy o h lim [] []) (sym r) reading) (subst (λ o. IsFault o lim [] false) (sym r) (no_fault_yet h lim [] [] reading))

-- what an open reader that wasn't refused goes on from
pub reading_of : (h : ReaderView) (lim : Limits) (b : List ℕ) (given : List Token) → h.refused ≡ None → Stands h lim b false given → IsReading h lim b given
reading_of h lim b given e s = subst (λ o. GoesOnBy o h lim b given) e s.goes_on.1

-- behind a piece
took_at : (old new : ReaderView) (lim : Limits) (b more : List ℕ) (given : List Token) (r : Result (Unit {0}) DocFault) → old.refused ≡ None → (IsReading old old.limits b given → Took r new old.limits (b ++ more) given) → Stands old lim b false given → Took r new lim (b ++ more) given
took_at old new lim b more given r e q s =
    subst (λ (l : Limits). Took r new l (b ++ more) given) s.limits (q (subst (λ (l : Limits). IsReading old l b given) (sym s.limits) (reading_of old lim b given e s)))

pub stands_read : (old new : ReaderView) (lim : Limits) (b more : List ℕ) (given : List Token) → old.refused ≡ None → IsSame old new → (IsReading old old.limits b given → Took {T = Unit {0}} (Ok tt) new old.limits (b ++ more) given) → Stands old lim b false given → Stands new lim (b ++ more) false given
stands_read old new lim b more given e m took s =
    let none = m.refused ∙ e in
    let q = took_at old new lim b more given (Ok tt) e took s in
    stands_open new lim (b ++ more) given (m.limits ∙ s.limits) (m.finished ∙ s.finished) (m.end_waits ∙ s.goes_on.0) (subst (λ o. GoesOnBy o new lim (b ++ more) given) (sym none) q.0) (subst (λ o. IsFault o lim (b ++ more) false) (sym none) q.1)

pub stands_refused : (old new : ReaderView) (lim : Limits) (b more : List ℕ) (given : List Token) (f : DocFault) → old.refused ≡ None → IsSame old new → (IsReading old old.limits b given → Took {T = Unit {0}} (Err f) new old.limits (b ++ more) given) → Stands old lim b false given → Stands (record new { refused = Some f }) lim (b ++ more) false given
stands_refused old new lim b more given f e m took s =
    let q = took_at old new lim b more given (Err f) e took s in
    stands_open (record new { refused = Some f }) lim (b ++ more) given (m.limits ∙ s.limits) (m.finished ∙ s.finished) (m.end_waits ∙ s.goes_on.0) (kept_by f new (record new { refused = Some f }) lim (b ++ more) given refl q.0) q.1

-- a piece behind a refusal
pub stands_still : (h : ReaderView) (lim : Limits) (b more : List ℕ) (given : List Token) → IsRefused h → Stands h lim b false given → Stands h lim (b ++ more) false given
stands_still h lim b more given n s =
    let q = by h.refused n s.goes_on.1 s.fault in
    stands_open h lim (b ++ more) given s.limits s.finished s.goes_on.0 q.0 q.1
  where
    by : (o : Option DocFault) → (o ≡ None → ⊥) → GoesOnBy o h lim b given → IsFault o lim b false → GoesOnBy o h lim (b ++ more) given × IsFault o lim (b ++ more) false
    by None n q k = absurd (n refl)
    by (Some f) n q k = took_more h lim b more given f (q, k)

-- memory ran out behind the piece, and the tokens that wait are those before it
pub stands_lost : (old new : ReaderView) (lim : Limits) (b more : List ℕ) (given : List Token) → old.refused ≡ None → new.limits ≡ lim → new.finished ≡ false → new.end_waits ≡ false → new.refused ≡ Some doc_faults.Memory → new.state.tokens ≡ old.state.tokens → Stands old lim b false given → Stands new lim (b ++ more) false given
stands_lost old new lim b more given none l f e refused tokens s =
    let r = reading_of old lim b given none s in
    let lost : HasLost old.state.tokens lim (b ++ more) given = (took_more old lim b more given doc_faults.Memory (record { chars = r.chars; read = all_read old lim b given r }, tt)).0 in
    stands_open new lim (b ++ more) given l f e
    (subst (λ o. GoesOnBy o new lim (b ++ more) given) (sym refused) (subst (λ ts. HasLost ts lim (b ++ more) given) (sym tokens) lost))
    (subst (λ o. IsFault o lim (b ++ more) false) (sym refused) tt)

-- ---- the first tokens are taken

module _ (h : ReaderView) (ts rest : List Said) (first : h.state.tokens ≡ ts ++ rest) (lim : Limits) (b : List ℕ) (given : List Token) where
  given_more : (before : List Said) → given ≡ map given_token before → given ++ map given_token ts ≡ map given_token (before ++ ts)
  given_more before e = ap (λ l. l ++ map given_token ts) e ∙ sym (map-append before ts)

  read_taken : (chars : List ℕ) → HasRead h.state.tokens lim b chars given → HasRead rest lim b chars (given ++ map given_token ts)
  read_taken chars r = record {
    rest = r.rest;
    scalars_are = r.scalars_are;
    parts = r.parts;
    within = r.within;
    clean = r.clean;
    before = r.before ++ ts;
    given_are = given_more r.before r.given_are;
    state = r.state;
    tokens_are = r.tokens_are ∙ ap (λ l. r.before ++ l) first ∙ sym (append_assoc r.before ts rest);
    front = r.front;
  }

  reading_taken : IsReading h lim b given → IsReading (with_tokens h rest) lim b (given ++ map given_token ts)
  reading_taken r = record {
    chars = r.chars;
    stream = r.stream;
    place = r.place;
    count = r.count;
    within = r.within;
    clean = r.clean;
    short = r.short;
    before = r.before ++ ts;
    given_are = given_more r.before r.given_are;
    front = subst (λ l. Fronts r.chars (record h.state { tokens = l })) (ap (λ l. r.before ++ l) first ∙ sym (append_assoc r.before ts rest)) r.front;
  }

  stopped_taken : HasStopped h.state.tokens lim b given → HasStopped rest lim b (given ++ map given_token ts)
  stopped_taken q = record { chars = q.chars; read = read_taken q.chars q.read; longest = q.longest }

  goes_taken : (o : Option DocFault) → GoesOnBy o h lim b given → GoesOnBy o (with_tokens h rest) lim b (given ++ map given_token ts)
  goes_taken None q = reading_taken q
  goes_taken (Some doc_faults.Memory) q = record { chars = q.chars; read = read_taken q.chars q.read }
  goes_taken (Some (doc_faults.Utf8 n)) q = stopped_taken q
  goes_taken (Some (doc_faults.Syntax n)) q = stopped_taken q
  goes_taken (Some (doc_faults.Truncated n)) q = stopped_taken q
  goes_taken (Some (doc_faults.Depth n)) q = stopped_taken q
  goes_taken (Some (doc_faults.NameLong n)) q = stopped_taken q
  goes_taken (Some (doc_faults.TextLong n)) q = stopped_taken q
  goes_taken (Some (doc_faults.TooLong n)) q = stopped_taken q

  on_taken : (ended : Bool) → ReaderGoesOn ended h lim b given → ReaderGoesOn ended (with_tokens h rest) lim b (given ++ map given_token ts)
  on_taken true q = tt
  on_taken false q = (q.0, goes_taken h.refused q.1)

  pub stands_taken : (ended : Bool) → Stands h lim b ended given → Stands (with_tokens h rest) lim b ended (given ++ map given_token ts)
  stands_taken ended q = record {
    limits = q.limits;
    finished = q.finished;
    fault = q.fault;
    gives = subst (GivesBy h.refused lim b ended) (ap (λ l. given ++ (l ++ end_token h.end_waits)) (ap (map given_token) first ∙ map-append ts rest) ∙ ap (λ l. given ++ l) (append_assoc (map given_token ts) (map given_token rest) (end_token h.end_waits)) ∙ sym (append_assoc given (map given_token ts) (map given_token rest ++ end_token h.end_waits))) q.gives;
    goes_on = on_taken ended q.goes_on;
  }

-- the tokens that were given last, and those before them
pub record Split (given : List Token) (ts before : List Said) : Type 0 where
  pub first : List Said
  pub given_are : given ≡ map given_token first
  pub parts : before ≡ first ++ ts

split_given : (given : List Token) (ts before : List Said) → given ++ map given_token ts ≡ map given_token before → Split given ts before
split_given [] ts before e = record { first = []; given_are = refl; parts = sym (said-map before) ∙ sym (ap (map said_of) e) ∙ said-map ts }
split_given (t ∷ given) ts [] e = absurd (none t (given ++ map given_token ts) e)
  where
    none : (t : Token) (l : List Token) → t ∷ l ≡ [] → ⊥
    none t l e = cc
split_given (t ∷ given) ts (s ∷ before) e =
    let parts = same t (given_token s) (given ++ map given_token ts) (map given_token before) e in
    let q = split_given given ts before parts.1 in
    record { first = s ∷ q.first; given_are = (λ i. parts.0 i ∷ q.given_are i); parts = ap (λ l. s ∷ l) q.parts }
  where
    same : (t u : Token) (l m : List Token) → t ∷ l ≡ u ∷ m → (t ≡ u) × (l ≡ m)
    same t u l m e = (cc, cc)

module _ (h : ReaderView) (ts : List Said) (lim : Limits) (b : List ℕ) (given : List Token) where
  read_put : (chars : List ℕ) → HasRead h.state.tokens lim b chars (given ++ map given_token ts) → HasRead (ts ++ h.state.tokens) lim b chars given
  read_put chars r =
      let q = split_given given ts r.before r.given_are in
      record {
        rest = r.rest;
        scalars_are = r.scalars_are;
        parts = r.parts;
        within = r.within;
        clean = r.clean;
        before = q.first;
        given_are = q.given_are;
        state = r.state;
        tokens_are = r.tokens_are ∙ ap (λ l. l ++ h.state.tokens) q.parts ∙ append_assoc q.first ts h.state.tokens;
        front = r.front;
      }

  reading_put : IsReading h lim b (given ++ map given_token ts) → IsReading (with_tokens h (ts ++ h.state.tokens)) lim b given
  reading_put r =
      let q = split_given given ts r.before r.given_are in
      record {
        chars = r.chars;
        stream = r.stream;
        place = r.place;
        count = r.count;
        within = r.within;
        clean = r.clean;
        short = r.short;
        before = q.first;
        given_are = q.given_are;
        front = subst (λ l. Fronts r.chars (record h.state { tokens = l })) (ap (λ l. l ++ h.state.tokens) q.parts ∙ append_assoc q.first ts h.state.tokens) r.front;
      }

  stopped_put : HasStopped h.state.tokens lim b (given ++ map given_token ts) → HasStopped (ts ++ h.state.tokens) lim b given
  stopped_put q = record { chars = q.chars; read = read_put q.chars q.read; longest = q.longest }

  goes_put : (o : Option DocFault) → GoesOnBy o h lim b (given ++ map given_token ts) → GoesOnBy o (with_tokens h (ts ++ h.state.tokens)) lim b given
  goes_put None q = reading_put q
  goes_put (Some doc_faults.Memory) q = record { chars = q.chars; read = read_put q.chars q.read }
  goes_put (Some (doc_faults.Utf8 n)) q = stopped_put q
  goes_put (Some (doc_faults.Syntax n)) q = stopped_put q
  goes_put (Some (doc_faults.Truncated n)) q = stopped_put q
  goes_put (Some (doc_faults.Depth n)) q = stopped_put q
  goes_put (Some (doc_faults.NameLong n)) q = stopped_put q
  goes_put (Some (doc_faults.TextLong n)) q = stopped_put q
  goes_put (Some (doc_faults.TooLong n)) q = stopped_put q

  on_put : (ended : Bool) → ReaderGoesOn ended h lim b (given ++ map given_token ts) → ReaderGoesOn ended (with_tokens h (ts ++ h.state.tokens)) lim b given
  on_put true q = tt
  on_put false q = (q.0, goes_put h.refused q.1)

  pub stands_put : (ended : Bool) → Stands h lim b ended (given ++ map given_token ts) → Stands (with_tokens h (ts ++ h.state.tokens)) lim b ended given
  stands_put ended q = record {
    limits = q.limits;
    finished = q.finished;
    fault = q.fault;
    gives = subst (GivesBy h.refused lim b ended) (append_assoc given (map given_token ts) (map given_token h.state.tokens ++ end_token h.end_waits) ∙ ap (λ l. given ++ l) (sym (append_assoc (map given_token ts) (map given_token h.state.tokens) (end_token h.end_waits))) ∙ ap (λ l. given ++ (l ++ end_token h.end_waits)) (sym (map-append ts h.state.tokens))) q.gives;
    goes_on = on_put ended q.goes_on;
  }

-- the end of the document is taken
stands_told : (h : ReaderView) (lim : Limits) (b : List ℕ) (ended : Bool) (given : List Token) → h.state.tokens ≡ [] → h.end_waits ≡ true → Stands h lim b ended given → Stands (record h { end_waits = false }) lim b ended (given ++ (EndOfDocument ∷ []))
stands_told h lim b false given e w q = absurd (true≢false (sym w ∙ q.goes_on.0))
stands_told h lim b true given e w q = record {
  limits = q.limits;
  finished = q.finished;
  fault = q.fault;
  gives = subst (GivesBy h.refused lim b true) ((λ i. given ++ (map given_token (e i) ++ end_token (w i))) ∙ sym (append-nil (given ++ (EndOfDocument ∷ []))) ∙ ap (λ l. (given ++ (EndOfDocument ∷ [])) ++ (map given_token l ++ [])) (sym e)) q.gives;
  goes_on = tt;
}

-- it is taken, or doesn't wait
pub stands_ended : (h : ReaderView) (lim : Limits) (b : List ℕ) (ended : Bool) (given : List Token) → h.state.tokens ≡ [] → Stands h lim b ended given → Stands (record h { end_waits = false }) lim b ended (given ++ end_token h.end_waits)
stands_ended h lim b ended given none s = by h.end_waits refl
  where
    by : (w : Bool) → h.end_waits ≡ w → Stands (record h { end_waits = false }) lim b ended (given ++ end_token w)
    by true e = stands_told h lim b ended given none e s
    by false e = subst (λ l. Stands (record h { end_waits = false }) lim b ended l) (sym (append-nil given)) (subst (λ w. Stands (record h { end_waits = w }) lim b ended given) e s)

-- ---- the end of the input

pub ended_is : (h : ReaderView) (lim : Limits) (b : List ℕ) (ended : Bool) (given : List Token) → Stands h lim b ended given → h.finished ≡ false → ended ≡ false
ended_is h lim b ended given s e = sym s.finished ∙ e

-- behind a refusal
pub stands_end_refused : (h : ReaderView) (lim : Limits) (b : List ℕ) (given : List Token) → IsRefused h → Stands h lim b false given → Stands (record h { finished = true }) lim b true given
stands_end_refused h lim b given n s =
    let q = by h.refused n s.goes_on.1 s.fault in
    record {
      limits = s.limits;
      finished = refl;
      fault = q.0;
      gives = subst (λ (w : Bool). GivesBy h.refused lim b true (given ++ (map given_token h.state.tokens ++ end_token w))) (sym s.goes_on.0) q.1;
      goes_on = tt;
    }
  where
    stays : (f : DocFault) → FaultIs lim b false (Some f) → FaultIs lim b true (Some f)
    stays f k = subst (λ l. FaultIs lim l true (Some f)) (append-nil b) (fault_stays lim b [] true f k)

    stopped : (f : DocFault) → HasStopped h.state.tokens lim b given → FaultIs lim b false (Some f) → FaultIs lim b true (Some f) × Gives lim b true (given ++ (map given_token h.state.tokens ++ []))
    stopped f q k = (stays f k, gives_stopped h.state.tokens lim b true given f q (stays f k))

    by : (o : Option DocFault) → (o ≡ None → ⊥) → GoesOnBy o h lim b given → IsFault o lim b false → IsFault o lim b true × GivesBy o lim b true (given ++ (map given_token h.state.tokens ++ []))
    by None n q k = absurd (n refl)
    by (Some doc_faults.Memory) n q k = (tt, gives_more h.state.tokens lim b q.chars true given q.read)
    by (Some (doc_faults.Utf8 m)) n q k = stopped (doc_faults.Utf8 m) q k
    by (Some (doc_faults.Syntax m)) n q k = stopped (doc_faults.Syntax m) q k
    by (Some (doc_faults.Truncated m)) n q k = stopped (doc_faults.Truncated m) q k
    by (Some (doc_faults.Depth m)) n q k = stopped (doc_faults.Depth m) q k
    by (Some (doc_faults.NameLong m)) n q k = stopped (doc_faults.NameLong m) q k
    by (Some (doc_faults.TextLong m)) n q k = stopped (doc_faults.TextLong m) q k
    by (Some (doc_faults.TooLong m)) n q k = stopped (doc_faults.TooLong m) q k

-- with a whole document
pub stands_end_whole : (h : ReaderView) (lim : Limits) (b : List ℕ) (given : List Token) → h.refused ≡ None → h.carry.bytes ≡ [] → is_whole h.state ≡ true → Stands h lim b false given → Stands (record h { finished = true; end_waits = true }) lim b true given
stands_end_whole h lim b given e none w s =
    let r = reading_of h lim b given e s in
    let state = with_given r.before h.state in
    let kept : Kept lim b [] state = subst (λ l. Kept lim b l state) none (kept_of h lim b given r) in
    let fault : FaultIs lim b true None = within_limit r.within (end_whole lim b state kept w).0 in
    let gives = gives_whole h.state.tokens lim b r.chars true given (all_read h lim b given r) (longest_so_far lim b h.carry.bytes state (kept_of h lim b given r) r.within) refl fault in
    record {
      limits = s.limits;
      finished = refl;
      fault = subst (λ o. IsFault o lim b true) (sym e) fault;
      gives = subst (λ o. GivesBy o lim b true (given ++ (map given_token h.state.tokens ++ (EndOfDocument ∷ [])))) (sym e) gives;
      goes_on = tt;
    }

-- inside a character, or too soon
pub stands_end_short : (h : ReaderView) (lim : Limits) (b : List ℕ) (given : List Token) (f : DocFault) → h.refused ≡ None → Ends {T = Unit {0}} (Err f) h → Stands h lim b false given → Stands (record h { finished = true; refused = Some f }) lim b true given
stands_end_short h lim b given f e ends s =
    let r = reading_of h lim b given e s in
    let state = with_given r.before h.state in
    let kept = kept_of h lim b given r in
    let q = elim ends as (λ _. FaultIs lim b true (Some f) × SaysEnd f) [
      | inl c ↦
          let place : size r.chars ≡ h.carry.seen - length h.carry.bytes = omega (arith, stands_place lim b h.carry.bytes state kept, r.stream.seen) in
          let is : doc_faults.Utf8 (size r.chars) ≡ f = ap doc_faults.Utf8 place ∙ sym c.1 in
          (subst (λ g. FaultIs lim b true (Some g)) is (within_limit r.within (end_cut lim b h.carry.bytes state kept (λ n. let z : length h.carry.bytes ≡ 0 = ap length n in let some = c.0 in absurd (omega (arith, z, some))))), subst SaysEnd is tt)
      | inr c ↦
          let is : doc_faults.Truncated (length b) ≡ f = ap doc_faults.Truncated (sym r.count) ∙ sym c.2 in
          (subst (λ g. FaultIs lim b true (Some g)) is (within_limit r.within (end_short lim b state (subst (λ l. Kept lim b l state) c.0 kept) c.1)), subst SaysEnd is tt)
    ] in
    let gives = gives_open h.state.tokens lim b r.chars true given (all_read h lim b given r) (longest_so_far lim b h.carry.bytes state kept r.within) (no_document lim b f true q.0) in
    let at : Gives lim b true (given ++ waiting h) = subst (λ (w : Bool). Gives lim b true (given ++ (map given_token h.state.tokens ++ end_token w))) (sym s.goes_on.0) gives in
    let both = by f q.1 q.0 at in
    record { limits = s.limits; finished = refl; fault = both.0; gives = both.1; goes_on = tt }
  where
    by : (f : DocFault) → SaysEnd f → FaultIs lim b true (Some f) → Gives lim b true (given ++ waiting h) → IsFault (Some f) lim b true × GivesBy (Some f) lim b true (given ++ waiting h)
    by (doc_faults.Utf8 m) w k g = (k, g)
    by (doc_faults.Truncated m) w k g = (k, g)
    by other w k g = absurd w
