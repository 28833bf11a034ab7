-- What each call leaves of the queue.
use Rattle.std.proofs.Common.{ℕ, zero, suc, ◌≡◌, ◌+◌, ◌-◌, ◌<◌, ◌≤◌, ◌⊎◌, inl, inr, Bool, true, false, not, cond, List, [], ◌∷◌, ◌++◌, length, take, drop, map, refl, sym, ap, ◌∙◌, subst, append-nil, append_assoc, arith, length-append, length-take, length-drop}
use Rattle.std.specs.Prelude.{slice_range, sum_by, IsUtf8}
use Rattle.std.proofs.lemmas.Bool.{true≢false, false≢true}
use Rattle.std.proofs.lemmas.List.{length-map, map-append, drop-drop, drop-take, drop-map, take-take, take_all, drop_all, take-append-le, take-append-drop, drop-append-le, drop_at, length-take-le}
use Rattle.std.proofs.lemmas.List.Sums.{sum_by-append, sum_by-take-drop}
use Rattle.std.proofs.lemmas.Str.{IsUtf8-nil, IsUtf8-append}
use Rattle.gcx_base.specs.Name.{IsNameBytes}
use Rattle.gcx_model.specs.Tree.{TreeToken, Start, Chars, End}
use Rattle.gcx_model.specs.Document.{is_blank}
use Rattle.gcx_model.specs.Fronts.{text_of}
use Rattle.doc_tokens.specs.declared.lent.Lent.{Lent}
use Rattle.doc_tokens.specs.declared.lent.Lent.TheVariants as lents
use Rattle.doc_tokens.specs.Parts.{lent_token, AllLieWithin, AreLent, moved_by}
use Rattle.doc_tokens.specs.Kept.{lent_queue, part_len, AreKept, text_part, unless_blank}
use Rattle.doc_tokens.specs.Tokens.{Queue}
use Rattle.doc_tokens.proofs.Parts.{parts_same, tokens_same, parts_wider, parts_append, parts_drop, parts_moved, tokens_moved, parts_long, before_cut, after_cut, kept_parts, MayCome, kept_more, queue_more}

abbrev queue_of : (run : List ℕ) (tokens pending : List TreeToken) → Queue
queue_of run tokens pending = record { run = run; tokens = tokens; pending = pending }

-- a queue whose three lists are these
pub queue_by : (run run' : List ℕ) (tokens tokens' pending pending' : List TreeToken) → run ≡ run' → tokens ≡ tokens' → pending ≡ pending' → queue_of run tokens pending ≡ queue_of run' tokens' pending'
queue_by run run' tokens tokens' pending pending' r t p = (λ i. queue_of (r i) (t i) (p i))

-- ---- no text and no tokens

pub new_kept : (bytes : List ℕ) (lent : List Lent) → bytes ≡ [] → lent ≡ [] → AreKept bytes lent 0 0 0 0
new_kept bytes lent b l =
    let none : AreKept [] [] 0 0 0 0 = record { based = omega arith; within = omega arith; utf8 = IsUtf8-nil; few = omega arith; enough = omega arith; parts = tt; behind = tt; full_whole = refl; full = refl; settled = inr refl } in
    subst (λ bs. AreKept bs lent 0 0 0 0) (sym b) (subst (λ ls. AreKept [] ls 0 0 0 0) (sym l) none)

pub new_queue : (bytes : List ℕ) (lent : List Lent) → bytes ≡ [] → lent ≡ [] → lent_queue bytes lent 0 0 0 ≡ record { run = []; tokens = []; pending = [] }
new_queue bytes lent b l = (λ i. lent_queue (b i) (l i) 0 0 0)

-- ---- text behind the text at hand

text_comes : (bytes text : List ℕ) (n : ℕ) → n ≤ length bytes → IsUtf8 (drop n bytes) → IsUtf8 text → MayCome bytes n (bytes ++ text) [] n
text_comes bytes text n l u v =
    let long = length-append bytes text in
    record {
      same = take-append-le n bytes text l;
      on = omega arith;
      within = omega (arith, long);
      utf8 = subst IsUtf8 (sym (drop-append-le n bytes text l)) (IsUtf8-append (drop n bytes) text u v);
      parts = tt;
      long = omega arith;
    }

pub text_kept : (bytes new text : List ℕ) (lent : List Lent) (base start taken whole : ℕ) → AreKept bytes lent base start taken whole → IsUtf8 text → new ≡ bytes ++ text → AreKept new lent base start taken whole
text_kept bytes new text lent base start taken whole k u e =
    subst (λ b. AreKept b lent base start taken whole) (sym e)
    (subst (λ l. AreKept (bytes ++ text) l base start taken whole) (append-nil lent) (kept_more bytes (bytes ++ text) lent [] base start start taken whole k (text_comes bytes text start k.within k.utf8 u)))

pub text_queue : (bytes new text : List ℕ) (lent : List Lent) (base start taken whole : ℕ) (q : Queue) → AreKept bytes lent base start taken whole → IsUtf8 text → new ≡ bytes ++ text → lent_queue bytes lent start taken whole ≡ q
    → lent_queue new lent start taken whole ≡ record q { run = q.run ++ text }
text_queue bytes new text lent base start taken whole q k u e v =
    let c = text_comes bytes text start k.within k.utf8 u in
    ap (λ b. lent_queue b lent start taken whole) e
    ∙ ap (λ l. lent_queue (bytes ++ text) l start taken whole) (sym (append-nil lent))
    ∙ queue_more bytes (bytes ++ text) lent [] base start start taken whole k c
    ∙ queue_by (drop start (bytes ++ text)) (q.run ++ text) (map (lent_token bytes) (drop taken (take whole lent))) q.tokens (map (lent_token bytes) (drop whole lent) ++ []) q.pending
    (drop-append-le start bytes text k.within ∙ ap (λ (p : Queue). p.run ++ text) v)
    (ap (λ (p : Queue). p.tokens) v)
    (append-nil (map (lent_token bytes) (drop whole lent)) ∙ ap (λ (p : Queue). p.pending) v)

-- ---- text that is only white space goes

no_text : (run : List ℕ) → not (is_blank run) ≡ false → text_of run ≡ []
no_text run e = by (is_blank run) e
  where
    by : (b : Bool) → not b ≡ false → cond b [] (Chars run ∷ []) ≡ []
    by true e = refl
    by false e = absurd (true≢false e)

some_text : (run : List ℕ) → not (is_blank run) ≡ true → text_of run ≡ Chars run ∷ []
some_text run e = by (is_blank run) e
  where
    by : (b : Bool) → not b ≡ true → cond b [] (Chars run ∷ []) ≡ Chars run ∷ []
    by true e = absurd (false≢true e)
    by false e = refl

no_run : (run : List ℕ) → not (is_blank run) ≡ false → unless_blank run ≡ []
no_run run e = by (is_blank run) e
  where
    by : (b : Bool) → not b ≡ false → cond b [] run ≡ []
    by true e = refl
    by false e = absurd (true≢false e)

some_run : (run : List ℕ) → not (is_blank run) ≡ true → unless_blank run ≡ run
some_run run e = by (is_blank run) e
  where
    by : (b : Bool) → not b ≡ true → cond b [] run ≡ run
    by true e = absurd (false≢true e)
    by false e = refl

blank_goes : (bytes : List ℕ) (n : ℕ) → n ≤ length bytes → MayCome bytes n (take n bytes) [] n
blank_goes bytes n l =
    let long = length-take-le n bytes l in
    record {
      same = take-take n n bytes (omega arith);
      on = omega arith;
      within = omega (arith, long);
      utf8 = subst IsUtf8 (sym (drop_all n (take n bytes) (omega (arith, long)))) IsUtf8-nil;
      parts = tt;
      long = omega arith;
    }

pub blank_kept : (bytes : List ℕ) (lent : List Lent) (base start taken whole : ℕ) → AreKept bytes lent base start taken whole → AreKept (take start bytes) lent base start taken whole
blank_kept bytes lent base start taken whole k =
    subst (λ l. AreKept (take start bytes) l base start taken whole) (append-nil lent) (kept_more bytes (take start bytes) lent [] base start start taken whole k (blank_goes bytes start k.within))

pub blank_queue : (bytes : List ℕ) (lent : List Lent) (base start taken whole : ℕ) (q : Queue) → AreKept bytes lent base start taken whole → not (is_blank q.run) ≡ false → lent_queue bytes lent start taken whole ≡ q → lent_queue (take start bytes) lent start taken whole ≡ record q { run = unless_blank q.run }
blank_queue bytes lent base start taken whole q k e v =
    let within = k.within in
    let gone : drop start (take start bytes) ≡ [] = drop_all start (take start bytes) (omega (arith, length-take start bytes)) in
    ap (λ l. lent_queue (take start bytes) l start taken whole) (sym (append-nil lent))
    ∙ queue_more bytes (take start bytes) lent [] base start start taken whole k (blank_goes bytes start within)
    ∙ queue_by (drop start (take start bytes)) (unless_blank q.run) (map (lent_token bytes) (drop taken (take whole lent))) q.tokens (map (lent_token bytes) (drop whole lent) ++ []) q.pending
    (gone ∙ sym (no_run q.run e))
    (ap (λ (p : Queue). p.tokens) v)
    (append-nil (map (lent_token bytes) (drop whole lent)) ∙ ap (λ (p : Queue). p.pending) v)

pub text_stays : (q : Queue) → not (is_blank q.run) ≡ true → q ≡ record q { run = unless_blank q.run }
text_stays q e = queue_by q.run (unless_blank q.run) q.tokens q.tokens q.pending q.pending (sym (some_run q.run e)) refl refl

-- ---- tokens that are lent, and taken

pub range_is : {X : Type 0} (xs : List X) (a b : ℕ) → a ≤ b → slice_range xs a b ≡ drop a (take b xs)
range_is xs a b l =
    let parts : a + (b - a) ≡ b = omega arith in
    sym (drop-take a (b - a) xs) ∙ ap (λ n. drop a (take n xs)) parts

pub lent_kept : (bytes : List ℕ) (lent part : List Lent) (base start taken whole : ℕ) → AreKept bytes lent base start taken whole → part ≡ slice_range lent taken whole → AreLent part bytes (map (lent_token bytes) (drop taken (take whole lent)))
lent_kept bytes lent part base start taken whole k e =
    let same = e ∙ range_is lent taken whole k.few in
    let based = k.based in
    let within = k.within in
    record {
      tokens_are = ap (map (lent_token bytes)) same;
      parts = subst (AllLieWithin 0 (length bytes) bytes) (sym same) (parts_wider 0 0 base (length bytes) bytes (drop taken (take whole lent)) (omega arith) (omega arith) (parts_drop 0 base bytes taken (take whole lent) k.parts));
    }

pub few_left : (bytes : List ℕ) (lent : List Lent) (taken whole count : ℕ) → whole ≤ length lent → taken ≤ whole → count ≤ length (map (lent_token bytes) (drop taken (take whole lent))) → taken + count ≤ whole
few_left bytes lent taken whole count enough few l =
    let all = length-map (drop taken (take whole lent)) (lent_token bytes) in
    let rest = length-drop taken (take whole lent) in
    let front = length-take whole lent in
    omega (arith, all, rest, front)

pub tokens_left : (bytes : List ℕ) (lent : List Lent) (taken whole count : ℕ) → map (lent_token bytes) (drop (taken + count) (take whole lent)) ≡ drop count (map (lent_token bytes) (drop taken (take whole lent)))
tokens_left bytes lent taken whole count = ap (map (lent_token bytes)) (sym (drop-drop count taken (take whole lent))) ∙ sym (drop-map (lent_token bytes) count (drop taken (take whole lent)))

-- so many are all that are left
pub all_left : (bytes : List ℕ) (lent : List Lent) (start taken whole count : ℕ) (q : Queue) → whole ≤ length lent → whole ≤ taken + count → lent_queue bytes lent start taken whole ≡ q → drop count q.tokens ≡ []
all_left bytes lent start taken whole count q enough all v =
    let long = ap (λ (p : Queue). length p.tokens) (sym v) ∙ length-map (drop taken (take whole lent)) (lent_token bytes) in
    drop_all count q.tokens (omega (arith, long, length-drop taken (take whole lent), length-take whole lent))

-- ---- the tokens of the whole tags go, and their bytes

pub settled_kept : (bytes : List ℕ) (lent : List Lent) (base start taken whole : ℕ) → AreKept bytes lent base start taken whole → AreKept (drop base bytes) (map (moved_by base) (drop whole lent)) 0 (start - base) 0 0
settled_kept bytes lent base start taken whole k =
    let based = k.based in
    let within = k.within in
    let back : base + (start - base) ≡ start = omega arith in
    let left : start - base ≡ sum_by part_len (drop whole lent) = omega (arith, k.full, k.full_whole, sum_by-take-drop part_len lent whole) in
    record {
      based = omega arith;
      within = omega (arith, length-drop base bytes);
      utf8 = subst IsUtf8 (sym (drop-drop (start - base) base bytes ∙ ap (λ n. drop n bytes) back)) k.utf8;
      few = omega arith;
      enough = omega arith;
      parts = tt;
      behind = parts_moved base start bytes (drop whole lent) k.behind;
      full_whole = refl;
      full = left ∙ sym (parts_long base start bytes (drop whole lent) k.behind);
      settled = inr refl;
    }

pub settled_queue : (bytes : List ℕ) (lent : List Lent) (base start taken whole : ℕ) (q : Queue) → AreKept bytes lent base start taken whole → lent_queue bytes lent start taken whole ≡ q → lent_queue (drop base bytes) (map (moved_by base) (drop whole lent)) (start - base) 0 0 ≡ record q { tokens = [] }
settled_queue bytes lent base start taken whole q k v =
    let based = k.based in
    let back : base + (start - base) ≡ start = omega arith in
    queue_by (drop (start - base) (drop base bytes)) q.run [] [] (map (lent_token (drop base bytes)) (map (moved_by base) (drop whole lent))) q.pending
    (drop-drop (start - base) base bytes ∙ ap (λ n. drop n bytes) back ∙ ap (λ (p : Queue). p.run) v)
    refl
    (tokens_moved base start bytes (drop whole lent) k.behind ∙ ap (λ (p : Queue). p.pending) v)

-- there are none
pub none_whole : (bytes : List ℕ) (lent : List Lent) (start taken whole : ℕ) (q : Queue) → whole ≡ 0 → lent_queue bytes lent start taken whole ≡ q → q ≡ record q { tokens = [] }
none_whole bytes lent start taken whole q z v =
    let none : drop taken (take whole lent) ≡ [] = drop_all taken (take whole lent) (omega (arith, length-take whole lent)) in
    queue_by q.run q.run q.tokens [] q.pending q.pending refl (ap (λ (p : Queue). p.tokens) (sym v) ∙ ap (map (lent_token bytes)) none) refl

-- ---- the tokens of the tag go, and their bytes

cut_front : (bytes : List ℕ) (lent : List Lent) (base start taken whole : ℕ) → AreKept bytes lent base start taken whole → take base bytes ≡ take base (take base bytes ++ drop start bytes)
cut_front bytes lent base start taken whole k =
    let based = k.based in
    let within = k.within in
    sym (before_cut bytes base start (omega arith))

cut_run : (bytes : List ℕ) (lent : List Lent) (base start taken whole : ℕ) → AreKept bytes lent base start taken whole → drop base (take base bytes ++ drop start bytes) ≡ drop start bytes
cut_run bytes lent base start taken whole k =
    let based = k.based in
    let within = k.within in
    after_cut bytes base start (omega arith)

pub forgot_kept : (bytes : List ℕ) (lent : List Lent) (base start taken whole : ℕ) → AreKept bytes lent base start taken whole → AreKept (take base bytes ++ drop start bytes) (take whole lent) base base taken whole
forgot_kept bytes lent base start taken whole k =
    let based = k.based in
    let within = k.within in
    let enough = k.enough in
    let new = take base bytes ++ drop start bytes in
    let long : length (take whole lent) ≡ whole = omega (arith, length-take whole lent) in
    let none : drop whole (take whole lent) ≡ [] = drop_all whole (take whole lent) (omega (arith, long)) in
    let same : take whole (take whole lent) ≡ take whole lent = take-take whole whole lent (omega arith) in
    record {
      based = omega arith;
      within = omega (arith, length-append (take base bytes) (drop start bytes), length-take base bytes);
      utf8 = subst IsUtf8 (sym (cut_run bytes lent base start taken whole k)) k.utf8;
      few = k.few;
      enough = omega (arith, long);
      parts = subst (AllLieWithin 0 base new) (sym same) (parts_same 0 base bytes new (take whole lent) (cut_front bytes lent base start taken whole k) k.parts);
      behind = subst (AllLieWithin base base new) (sym none) tt;
      full_whole = k.full_whole ∙ ap (sum_by part_len) (sym same);
      full = k.full_whole;
      settled = k.settled;
    }

pub forgot_queue : (bytes : List ℕ) (lent : List Lent) (base start taken whole : ℕ) (q : Queue) → AreKept bytes lent base start taken whole → lent_queue bytes lent start taken whole ≡ q → lent_queue (take base bytes ++ drop start bytes) (take whole lent) base taken whole ≡ record q { pending = [] }
forgot_queue bytes lent base start taken whole q k v =
    let enough = k.enough in
    let new = take base bytes ++ drop start bytes in
    let first = parts_drop 0 base bytes taken (take whole lent) k.parts in
    queue_by (drop base new) q.run (map (lent_token new) (drop taken (take whole (take whole lent)))) q.tokens (map (lent_token new) (drop whole (take whole lent))) []
    (cut_run bytes lent base start taken whole k ∙ ap (λ (p : Queue). p.run) v)
    (ap (λ t. map (lent_token new) (drop taken t)) (take-take whole whole lent (omega arith)) ∙ tokens_same 0 base bytes new (drop taken (take whole lent)) (cut_front bytes lent base start taken whole k) first ∙ ap (λ (p : Queue). p.tokens) v)
    (ap (map (lent_token new)) (drop_all whole (take whole lent) (omega (arith, length-take whole lent))))

-- there are none
pub none_pending : (bytes : List ℕ) (lent : List Lent) (start taken whole : ℕ) (q : Queue) → length lent ≤ whole → lent_queue bytes lent start taken whole ≡ q → q ≡ record q { pending = [] }
none_pending bytes lent start taken whole q l v =
    queue_by q.run q.run q.tokens q.tokens q.pending [] refl refl (ap (λ (p : Queue). p.pending) (sym v) ∙ ap (map (lent_token bytes)) (drop_all whole lent l))

-- ---- they are those of a whole tag

some_wait : (taken whole n : ℕ) → taken ≤ whole → whole ≤ n → (taken < whole) ⊎ (whole ≡ 0) → (taken < n) ⊎ (n ≡ 0)
some_wait taken whole zero few more s = inr refl
some_wait taken whole (suc n) few more (inl s) = inl (omega arith)
some_wait taken whole (suc n) few more (inr s) = inl (omega arith)

pub whole_kept : (bytes : List ℕ) (lent : List Lent) (base start taken whole : ℕ) → AreKept bytes lent base start taken whole → AreKept bytes lent start start taken (length lent)
whole_kept bytes lent base start taken whole k =
    let few = k.few in
    let enough = k.enough in
    let all : take (length lent) lent ≡ lent = take_all (length lent) lent (omega arith) in
    record {
      based = omega arith;
      within = k.within;
      utf8 = k.utf8;
      few = omega arith;
      enough = omega arith;
      parts = subst (AllLieWithin 0 start bytes) (sym all) (kept_parts bytes lent base start taken whole k);
      behind = subst (AllLieWithin start start bytes) (sym (drop_all (length lent) lent (omega arith))) tt;
      full_whole = k.full ∙ ap (sum_by part_len) (sym all);
      full = k.full;
      settled = some_wait taken whole (length lent) few enough k.settled;
    }

pub whole_queue : (bytes : List ℕ) (lent : List Lent) (start taken whole : ℕ) (q : Queue) → taken ≤ whole → whole ≤ length lent → lent_queue bytes lent start taken whole ≡ q → lent_queue bytes lent start taken (length lent) ≡ record q { tokens = q.tokens ++ q.pending; pending = [] }
whole_queue bytes lent start taken whole q few enough v =
    let front : taken ≤ length (take whole lent) = omega (arith, length-take whole lent) in
    let all : drop taken (take (length lent) lent) ≡ drop taken (take whole lent) ++ drop whole lent =
    ap (drop taken) (take_all (length lent) lent (omega arith) ∙ sym (take-append-drop whole lent)) ∙ drop-append-le taken (take whole lent) (drop whole lent) front in
    queue_by (drop start bytes) q.run (map (lent_token bytes) (drop taken (take (length lent) lent))) (q.tokens ++ q.pending) (map (lent_token bytes) (drop (length lent) lent)) []
    (ap (λ (p : Queue). p.run) v)
    (ap (map (lent_token bytes)) all ∙ map-append (lent_token bytes) (drop taken (take whole lent)) (drop whole lent) ∙ (λ i. (v i).tokens ++ (v i).pending))
    (ap (map (lent_token bytes)) (drop_all (length lent) lent (omega arith)))

-- ---- tokens more, and no text at hand

-- bytes and tokens behind these, and the text at hand then
record Comes (bytes : List ℕ) (lent : List Lent) (start : ℕ) (new : List ℕ) (behind : List Lent) (next : ℕ) (run : List ℕ) (tokens : List TreeToken) : Type 0 where
  pub more : List Lent
  pub behind_is : behind ≡ lent ++ more
  pub may : MayCome bytes start new more next
  pub run_is : drop next new ≡ run
  pub tokens_are : map (lent_token new) more ≡ tokens

come_kept : (bytes new : List ℕ) (lent behind : List Lent) (base start next taken whole : ℕ) (run : List ℕ) (tokens : List TreeToken) → AreKept bytes lent base start taken whole → Comes bytes lent start new behind next run tokens → AreKept new behind base next taken whole
come_kept bytes new lent behind base start next taken whole run tokens k c =
    subst (λ l. AreKept new l base next taken whole) (sym c.behind_is) (kept_more bytes new lent c.more base start next taken whole k c.may)

come_queue : (bytes new : List ℕ) (lent behind : List Lent) (base start next taken whole : ℕ) (run : List ℕ) (tokens : List TreeToken) (q : Queue) → AreKept bytes lent base start taken whole → Comes bytes lent start new behind next run tokens → lent_queue bytes lent start taken whole ≡ q
    → lent_queue new behind next taken whole ≡ record q { run = run; pending = q.pending ++ tokens }
come_queue bytes new lent behind base start next taken whole run tokens q k c v =
    ap (λ l. lent_queue new l next taken whole) c.behind_is
    ∙ queue_more bytes new lent c.more base start next taken whole k c.may
    ∙ queue_by (drop next new) run (map (lent_token bytes) (drop taken (take whole lent))) q.tokens (map (lent_token bytes) (drop whole lent) ++ map (lent_token new) c.more) (q.pending ++ tokens)
    c.run_is
    (ap (λ (p : Queue). p.tokens) v)
    (λ i. (v i).pending ++ c.tokens_are i)

-- the bytes that come last
last_part : (bytes more : List ℕ) (n e : ℕ) → n ≡ length bytes → e ≡ length (bytes ++ more) → slice_range (bytes ++ more) n e ≡ more
last_part bytes more n e l m =
    let size : length more ≤ e - n = omega (arith, length-append bytes more) in
    ap (take (e - n)) (drop_at bytes more n (sym l)) ∙ take_all (e - n) more size

-- A name comes behind all bytes. The text before it is at hand: `run`, which isn't blank where `text` says so, or else nothing.
record Named (bytes name : List ℕ) (start : ℕ) (run : List ℕ) (text : Bool) (first end : ℕ) : Type 0 where
  pub within : start ≤ length bytes
  pub utf8 : IsUtf8 (drop start bytes)
  pub run_is : drop start bytes ≡ unless_blank run
  pub text_is : text ≡ not (is_blank run)
  pub first_is : first ≡ length bytes
  pub end_is : end ≡ length (bytes ++ name)

module _ (bytes name : List ℕ) (start : ℕ) (run : List ℕ) (text : Bool) (first end : ℕ) (n : Named bytes name start run text first end) where
  value_is : slice_range (bytes ++ name) start first ≡ drop start bytes
  value_is =
      let within = n.within in
      let at = n.first_is in
      range_is (bytes ++ name) start first (omega arith) ∙ ap (drop start) (take-append-le first bytes name (omega arith) ∙ take_all first bytes (omega arith))

  text_parts : (b : Bool) → AllLieWithin start end (bytes ++ name) (text_part start first b)
  text_parts true =
      let within = n.within in
      let at = n.first_is in
      let all = n.end_is in
      ((omega arith, omega arith, omega (arith, length-append bytes name), subst IsUtf8 (sym value_is) n.utf8), tt)
  text_parts false = tt

  text_tokens : (b : Bool) → b ≡ not (is_blank run) → map (lent_token (bytes ++ name)) (text_part start first b) ≡ text_of run
  text_tokens true e = ap (λ t. Chars t ∷ []) (value_is ∙ n.run_is ∙ some_run run (sym e)) ∙ sym (some_text run (sym e))
  text_tokens false e = sym (no_text run (sym e))

  run_tokens : map (lent_token (bytes ++ name)) (text_part start first text) ≡ text_of run
  run_tokens = text_tokens text n.text_is

  text_long : (b : Bool) → b ≡ not (is_blank run) → start + sum_by part_len (text_part start first b) ≡ first
  text_long true e =
      let within = n.within in
      let at = n.first_is in
      let all : start + (0 + (first - start)) ≡ first = omega arith in all
  text_long false e =
      let none : drop start bytes ≡ [] = n.run_is ∙ no_run run (sym e) in
      let within = n.within in
      let at = n.first_is in
      let all : start + 0 ≡ first = omega (arith, length-drop start bytes, ap length none) in all

  run_long : start + sum_by part_len (text_part start first text) ≡ first
  run_long = text_long text n.text_is

  name_long : first + sum_by part_len (lents.Start first end ∷ []) ≡ end
  name_long =
      let at = n.first_is in
      let all = n.end_is in
      let both : first + (0 + (end - first)) ≡ end = omega (arith, length-append bytes name) in both

  name_part : IsNameBytes name → AllLieWithin start end (bytes ++ name) (lents.Start first end ∷ [])
  name_part is =
      let within = n.within in
      let at = n.first_is in
      let all = n.end_is in
      ((omega arith, omega (arith, length-append bytes name), omega arith, subst IsNameBytes (sym (last_part bytes name first end at all)) is), tt)

  name_token : map (lent_token (bytes ++ name)) (lents.Start first end ∷ []) ≡ Start name ∷ []
  name_token = ap (λ t. Start t ∷ []) (last_part bytes name first end n.first_is n.end_is)

  all_read : drop end (bytes ++ name) ≡ []
  all_read =
      let all = n.end_is in
      drop_all end (bytes ++ name) (omega arith)

  all_come : (more : List Lent) → AllLieWithin start end (bytes ++ name) more → end ≡ start + sum_by part_len more → MayCome bytes start (bytes ++ name) more end
  all_come more p l =
      let within = n.within in
      let all = n.end_is in
      record {
        same = take-append-le start bytes name within;
        on = omega (arith, length-append bytes name);
        within = omega arith;
        utf8 = subst IsUtf8 (sym all_read) IsUtf8-nil;
        parts = p;
        long = l;
      }

  -- a start tag's name, behind the text
  begin_comes : (lent behind : List Lent) → IsNameBytes name → behind ≡ (lent ++ text_part start first text) ++ (lents.Start first end ∷ []) → Comes bytes lent start (bytes ++ name) behind end [] (text_of run ++ (Start name ∷ []))
  begin_comes lent behind is e = record {
    more = text_part start first text ++ (lents.Start first end ∷ []);
    behind_is = e ∙ append_assoc lent (text_part start first text) (lents.Start first end ∷ []);
    may = all_come (text_part start first text ++ (lents.Start first end ∷ [])) (parts_append start end (bytes ++ name) (text_part start first text) (lents.Start first end ∷ []) (text_parts text) (name_part is))
        (omega (arith, run_long, name_long, sum_by-append part_len (text_part start first text) (lents.Start first end ∷ [])));
    run_is = all_read;
    tokens_are = map-append (lent_token (bytes ++ name)) (text_part start first text) (lents.Start first end ∷ []) ∙ (λ i. run_tokens i ++ name_token i);
  }

  end_parts : AllLieWithin start end (bytes ++ name) (text_part start first text ++ (lents.End ∷ []))
  end_parts = parts_append start end (bytes ++ name) (text_part start first text) (lents.End ∷ []) (text_parts text) (tt, tt)

  end_long : start + sum_by part_len (text_part start first text ++ (lents.End ∷ [])) ≡ first
  end_long = omega (arith, run_long, sum_by-append part_len (text_part start first text) (lents.End ∷ []))

  end_tokens : map (lent_token (bytes ++ name)) (text_part start first text ++ (lents.End ∷ [])) ≡ text_of run ++ (End ∷ [])
  end_tokens = map-append (lent_token (bytes ++ name)) (text_part start first text) (lents.End ∷ []) ∙ ap (λ ts. ts ++ (End ∷ [])) run_tokens

  -- an attribute, whose value is the text
  attribute_comes : (lent behind : List Lent) → IsNameBytes name → behind ≡ ((lent ++ (lents.Start first end ∷ [])) ++ text_part start first text) ++ (lents.End ∷ []) → Comes bytes lent start (bytes ++ name) behind end [] (Start name ∷ (text_of run ++ (End ∷ [])))
  attribute_comes lent behind is e = record {
    more = lents.Start first end ∷ (text_part start first text ++ (lents.End ∷ []));
    behind_is = e ∙ append_assoc (lent ++ (lents.Start first end ∷ [])) (text_part start first text) (lents.End ∷ []) ∙ append_assoc lent (lents.Start first end ∷ []) (text_part start first text ++ (lents.End ∷ []));
    may = all_come (lents.Start first end ∷ (text_part start first text ++ (lents.End ∷ []))) ((name_part is).0, end_parts)
        (omega (arith, name_long, end_long, sum_by-append part_len (lents.Start first end ∷ []) (text_part start first text ++ (lents.End ∷ []))));
    run_is = all_read;
    tokens_are = (λ i. name_token i ++ end_tokens i);
  }

  -- an end tag behind the text
  end_comes : (lent behind : List Lent) → first ≡ end → behind ≡ (lent ++ text_part start first text) ++ (lents.End ∷ []) → Comes bytes lent start (bytes ++ name) behind end [] (text_of run ++ (End ∷ []))
  end_comes lent behind l e = record {
    more = text_part start first text ++ (lents.End ∷ []);
    behind_is = e ∙ append_assoc lent (text_part start first text) (lents.End ∷ []);
    may = all_come (text_part start first text ++ (lents.End ∷ [])) end_parts (sym l ∙ sym end_long);
    run_is = all_read;
    tokens_are = end_tokens;
  }

-- ---- what each call leaves then

pub record Grown (new : List ℕ) (behind : List Lent) (base next taken whole : ℕ) (run : List ℕ) (tokens : List TreeToken) (q : Queue) : Type 0 where
  pub kept : AreKept new behind base next taken whole
  pub queue : lent_queue new behind next taken whole ≡ record q { run = run; pending = q.pending ++ tokens }

-- a name, with what comes before it, behind all bytes
named_by : (bytes : List ℕ) (lent : List Lent) (base start taken whole : ℕ) (q : Queue) (name new : List ℕ) (text : Bool) (first end : ℕ) → AreKept bytes lent base start taken whole → lent_queue bytes lent start taken whole ≡ record q { run = unless_blank q.run } → text ≡ not (is_blank q.run) → first ≡ length bytes → new ≡ bytes ++ name → end ≡ length new
    → Named bytes name start q.run text first end
named_by bytes lent base start taken whole q name new text first end k v t f n e = record {
  within = k.within;
  utf8 = k.utf8;
  run_is = ap (λ (p : Queue). p.run) v;
  text_is = t;
  first_is = f;
  end_is = e ∙ ap length n;
}

grown : (bytes : List ℕ) (lent : List Lent) (base start taken whole : ℕ) (q : Queue) (name new : List ℕ) (behind : List Lent) (next : ℕ) (run : List ℕ) (tokens : List TreeToken) → AreKept bytes lent base start taken whole → lent_queue bytes lent start taken whole ≡ record q { run = unless_blank q.run } → new ≡ bytes ++ name → Comes bytes lent start (bytes ++ name) behind next run tokens
    → Grown new behind base next taken whole run tokens q
grown bytes lent base start taken whole q name new behind next run tokens k v n c =
    let comes = subst (λ b. Comes bytes lent start b behind next run tokens) (sym n) c in
    record { kept = come_kept bytes new lent behind base start next taken whole run tokens k comes; queue = come_queue bytes new lent behind base start next taken whole run tokens (record q { run = unless_blank q.run }) k comes v }

pub begun : (bytes : List ℕ) (lent room mid behind : List Lent) (base start taken whole : ℕ) (q : Queue) (name new : List ℕ) (text : Bool) (first end : ℕ) → AreKept bytes lent base start taken whole → lent_queue bytes lent start taken whole ≡ record q { run = unless_blank q.run } → text ≡ not (is_blank q.run) → first ≡ length bytes → new ≡ bytes ++ name → end ≡ length new
    → IsNameBytes name → room ≡ lent → mid ≡ room ++ text_part start first text → behind ≡ mid ++ (lents.Start first end ∷ []) → Grown new behind base end taken whole [] (text_of q.run ++ (Start name ∷ [])) q
begun bytes lent room mid behind base start taken whole q name new text first end k v t f n e is r m b =
    let named = named_by bytes lent base start taken whole q name new text first end k v t f n e in
    let all = b ∙ ap (λ l. l ++ (lents.Start first end ∷ [])) (m ∙ ap (λ l. l ++ text_part start first text) r) in
    grown bytes lent base start taken whole q name new behind end [] (text_of q.run ++ (Start name ∷ [])) k v n (begin_comes bytes name start q.run text first end named lent behind is all)

pub attributed : (bytes : List ℕ) (lent room named mid behind : List Lent) (base start taken whole : ℕ) (q : Queue) (name new : List ℕ) (text : Bool) (first end : ℕ) → AreKept bytes lent base start taken whole → lent_queue bytes lent start taken whole ≡ record q { run = unless_blank q.run } → text ≡ not (is_blank q.run) → first ≡ length bytes → new ≡ bytes ++ name → end ≡ length new
    → IsNameBytes name → room ≡ lent → named ≡ room ++ (lents.Start first end ∷ []) → mid ≡ named ++ text_part start first text → behind ≡ mid ++ (lents.End ∷ []) → Grown new behind base end taken whole [] (Start name ∷ (text_of q.run ++ (End ∷ []))) q
attributed bytes lent room named mid behind base start taken whole q name new text first end k v t f n e is r s m b =
    let here = named_by bytes lent base start taken whole q name new text first end k v t f n e in
    let all = b ∙ ap (λ l. l ++ (lents.End ∷ [])) (m ∙ ap (λ l. l ++ text_part start first text) (s ∙ ap (λ l. l ++ (lents.Start first end ∷ [])) r)) in
    grown bytes lent base start taken whole q name new behind end [] (Start name ∷ (text_of q.run ++ (End ∷ []))) k v n (attribute_comes bytes name start q.run text first end here lent behind is all)

pub ended : (bytes : List ℕ) (lent room mid behind : List Lent) (base start taken whole : ℕ) (q : Queue) (text : Bool) (end : ℕ) → AreKept bytes lent base start taken whole → lent_queue bytes lent start taken whole ≡ record q { run = unless_blank q.run } → text ≡ not (is_blank q.run) → end ≡ length bytes
    → room ≡ lent → mid ≡ room ++ text_part start end text → behind ≡ mid ++ (lents.End ∷ []) → Grown bytes behind base end taken whole [] (text_of q.run ++ (End ∷ [])) q
ended bytes lent room mid behind base start taken whole q text end k v t e r m b =
    let none = sym (append-nil bytes) in
    let named = named_by bytes lent base start taken whole q [] bytes text end end k v t e none e in
    let all = b ∙ ap (λ l. l ++ (lents.End ∷ [])) (m ∙ ap (λ l. l ++ text_part start end text) r) in
    grown bytes lent base start taken whole q [] bytes behind end [] (text_of q.run ++ (End ∷ [])) k v none (end_comes bytes [] start q.run text end end named lent behind refl all)

-- an end before the text
pub emptied : (bytes : List ℕ) (lent behind : List Lent) (base start taken whole : ℕ) (q : Queue) → AreKept bytes lent base start taken whole → lent_queue bytes lent start taken whole ≡ q → behind ≡ lent ++ (lents.End ∷ []) → Grown bytes behind base start taken whole q.run (End ∷ []) q
emptied bytes lent behind base start taken whole q k v b =
    let comes : Comes bytes lent start bytes behind start q.run (End ∷ []) = record {
      more = lents.End ∷ [];
      behind_is = b;
      may = record { same = refl; on = omega arith; within = k.within; utf8 = k.utf8; parts = (tt, tt); long = omega arith };
      run_is = ap (λ (p : Queue). p.run) v;
      tokens_are = refl;
    } in
    record { kept = come_kept bytes bytes lent behind base start start taken whole q.run (End ∷ []) k comes; queue = come_queue bytes bytes lent behind base start start taken whole q.run (End ∷ []) q k comes v }
