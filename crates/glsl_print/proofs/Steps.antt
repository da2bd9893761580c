-- Steps of printing, one after the other.
use Rattle.std.proofs.Common.{suc, append_assoc, append-nil, add-one, drop, drop-cons, get_or, ◌<◌, ◌≤◌, subst, ◌≡◌, ◌+◌, ◌-◌, ◌++◌, ℕ, replicate, List, [], ◌∷◌, length, take, Option, Result, OnOk, Ok, Err, refl, sym, ap, ◌∙◌, arith}
use Rattle.std.specs.Io.KnownBytes.{Appends}
use Rattle.std.proofs.KnownBytes.{Appends-trans, Appends-nil}
use Rattle.std.proofs.lemmas.List.{take-append-drop, drop_all, replicate-append-replicate}
use Rattle.cc_outside.specs.Causes.{AppendsPrefix, HasCauseOf}
use Rattle.cc_outside.specs.declared.all.WriteEnd.{WriteEnd}
use Rattle.cc_outside.specs.declared.all.WriteEnd.TheVariants as sink
use Rattle.cc_outside.proofs.Fronts.{front_of, front_after}
use Rattle.glsl_print.specs.declared.end.PrintEnd.{PrintEnd}
use Rattle.glsl_print.specs.declared.end.PrintEnd.TheVariants.{Fault, Memory}
use Rattle.glsl_print.specs.Printed.{PageState, Handed, Printed, Goes}

pub goes_then : {K : Type 0} {written : K → Option (List ℕ)} {faults wants : K → ℕ} {a b c : K} {p q r : PageState} {xs ys : List ℕ} → Goes written faults wants a p xs b q → Goes written faults wants b q ys c r → Goes written faults wants a p (xs ++ ys) c r
goes_then {written = w} {faults = f} {wants = n} {c = c} {r = r} {xs = xs} {ys = ys} first second = record {
  prints = λ start before printed. subst (λ bytes. Printed w f n start c r bytes) (append_assoc before xs ys) (second.prints start (before ++ xs) (first.prints start before printed));
}

pub goes_nowhere : {K : Type 0} {written : K → Option (List ℕ)} {faults wants : K → ℕ} (a : K) (p : PageState) → Goes written faults wants a p [] a p
goes_nowhere {written = w} {faults = f} {wants = n} a p = record {
  prints = λ start before printed. subst (λ bytes. Printed w f n start a p bytes) (sym (append-nil before)) printed;
}

pub nothing_printed : {K : Type 0} (written : K → Option (List ℕ)) (faults wants : K → ℕ) (a : K) → Printed written faults wants a a (record { held = []; status = Ok tt }) []
nothing_printed written faults wants a = record {
  all = record { front = []; taken = Appends-nil (written a); whole = refl };
  front = (0, omega arith, Appends-nil (written a));
  fault = record { later = omega arith; failed = λ e. cc };
  want = record { later = omega arith; failed = λ e. cc };
}

-- bytes that are held
pub goes_held : {K : Type 0} {written : K → Option (List ℕ)} {faults wants : K → ℕ} (a : K) (held bytes : List ℕ) (status : Result (Unit {0}) PrintEnd) → Goes written faults wants a (record { held = held; status = status }) bytes a (record { held = held ++ bytes; status = status })
goes_held {written = w} a held bytes (Ok u) = record {
  prints = λ start before printed. record {
    all = record { front = printed.all.front; taken = printed.all.taken; whole = sym (append_assoc printed.all.front held bytes) ∙ ap (λ l. l ++ bytes) printed.all.whole };
    front = front_of _ _ before bytes printed.front;
    fault = printed.fault;
    want = printed.want;
  };
}
goes_held a held bytes (Err e) = record {
  prints = λ start before printed. record {
    all = tt;
    front = front_of _ _ before bytes printed.front;
    fault = printed.fault;
    want = printed.want;
  };
}

-- of all these bytes the last are still to be printed
pub record Remains {K : Type 0} (written : K → Option (List ℕ)) (faults wants : K → ℕ) (old : K) (page : PageState) (rest all : List ℕ) (new : K) (after : PageState) : Type 0 where
  pub bytes : List ℕ
  pub goes : Goes written faults wants old page bytes new after
  pub whole : bytes ++ rest ≡ all

pub remains_all : {K : Type 0} {written : K → Option (List ℕ)} {faults wants : K → ℕ} (a : K) (p : PageState) (all : List ℕ) → Remains written faults wants a p all all a p
remains_all a p all = record { bytes = []; goes = goes_nowhere a p; whole = refl }

pub remains_less : {K : Type 0} {written : K → Option (List ℕ)} {faults wants : K → ℕ} {a b c : K} {p q r : PageState} {xs all : List ℕ} (ys : List ℕ) → Remains written faults wants a p (xs ++ ys) all b q → Goes written faults wants b q xs c r → Remains written faults wants a p ys all c r
remains_less {xs = xs} ys before step = record {
  bytes = before.bytes ++ xs;
  goes = goes_then before.goes step;
  whole = append_assoc before.bytes xs ys ∙ before.whole;
}

pub remains_last : {K : Type 0} {written : K → Option (List ℕ)} {faults wants : K → ℕ} {a b c : K} {p q r : PageState} {xs all : List ℕ} → Remains written faults wants a p xs all b q → Goes written faults wants b q xs c r → Goes written faults wants a p all c r
remains_last {written = w} {faults = f} {wants = n} {a = a} {c = c} {p = p} {r = r} before step = subst (λ l. Goes w f n a p l c r) before.whole (goes_then before.goes step)

-- what is held was handed to the sink
module _ {K : Type 0} {written : K → Option (List ℕ)} {faults wants : K → ℕ} (start a b : K) (before held : List ℕ) where
  printed_after : (u : Unit {0}) (status : Result (Unit {0}) PrintEnd) → OnOk status (Appends (written a) (written b) held) → AppendsPrefix (written a) (written b) held → HasCauseOf Fault (faults a) (faults b) status → HasCauseOf Memory (wants a) (wants b) status → Printed written faults wants start a (record { held = held; status = Ok u }) before → Printed written faults wants start b (record { held = []; status = status }) (before ++ [])
  printed_after u (Ok v) all front fault want printed = record {
    all = record { front = printed.all.front ++ held; taken = Appends-trans _ _ _ _ _ printed.all.taken all; whole = append-nil (printed.all.front ++ held) ∙ printed.all.whole ∙ sym (append-nil before) };
    front = rw (append-nil, ← printed.all.whole) (front_after _ _ _ printed.all.front held printed.all.taken front);
    fault = record { later = omega (arith, printed.fault.later, fault.later); failed = λ e. cc };
    want = record { later = omega (arith, printed.want.later, want.later); failed = λ e. cc };
  }
  printed_after u (Err e) all front fault want printed = record {
    all = tt;
    front = rw (append-nil, ← printed.all.whole) (front_after _ _ _ printed.all.front held printed.all.taken front);
    fault = record { later = omega (arith, printed.fault.later, fault.later); failed = λ is. let rose = fault.failed is in omega (arith, printed.fault.later, rose) };
    want = record { later = omega (arith, printed.want.later, want.later); failed = λ is. let rose = want.failed is in omega (arith, printed.want.later, rose) };
  }

pub goes_handed : {K : Type 0} {written : K → Option (List ℕ)} {faults wants : K → ℕ} (a b : K) (held : List ℕ) (u : Unit {0}) (status : Result (Unit {0}) PrintEnd) → OnOk status (Appends (written a) (written b) held) → AppendsPrefix (written a) (written b) held → HasCauseOf Fault (faults a) (faults b) status → HasCauseOf Memory (wants a) (wants b) status → Goes written faults wants a (record { held = held; status = Ok u }) [] b (record { held = []; status = status })
goes_handed a b held u status all front fault want = record {
  prints = λ start before printed. printed_after start a b before held u status all front fault want printed;
}

-- after an end nothing is handed on
pub goes_ended : {K : Type 0} {written : K → Option (List ℕ)} {faults wants : K → ℕ} (a : K) (held : List ℕ) (e : PrintEnd) → Goes written faults wants a (record { held = held; status = Err e }) [] a (record { held = []; status = Err e })
goes_ended a held e = record {
  prints = λ start before printed. record {
    all = tt;
    front = front_of _ _ before [] printed.front;
    fault = printed.fault;
    want = printed.want;
  };
}

-- a piece was held and handed on
pub remains_piece : {K : Type 0} {written : K → Option (List ℕ)} {faults wants : K → ℕ} {a b c : K} {p q q' r : PageState} {rest all front after : List ℕ} (n : ℕ) → Remains written faults wants a p rest all b q → front ≡ take n rest → after ≡ drop n rest → q' ≡ record { held = q.held ++ front; status = q.status } → Goes written faults wants b q' [] c r → Remains written faults wants a p after all c r
remains_piece {written = w} {faults = f} {wants = m} {a = a} {b = b} {c = c} {p = p} {q = q} {r = r} {rest = rest} {all = all} {front = front} {after = after} n before is_front is_after is_held step =
    let held : Goes w f m b q front b (record { held = q.held ++ front; status = q.status }) = goes_held b q.held front q.status in
    let handed : Goes w f m b (record { held = q.held ++ front; status = q.status }) [] c r = rw is_held at step in
    let whole : rest ≡ front ++ after = rw (is_front, is_after) (sym (take-append-drop n rest)) in
    let at_front : Remains w f m a p (front ++ after) all b q = subst (λ l. Remains w f m a p l all b q) whole before in
    let goes : Goes w f m b q front c r = subst (λ l. Goes w f m b q l c r) (append-nil front) (goes_then held handed) in
    remains_less after at_front goes

pub remains_held : {K : Type 0} {written : K → Option (List ℕ)} {faults wants : K → ℕ} {a b : K} {p q q' : PageState} {rest all : List ℕ} → Remains written faults wants a p rest all b q → q' ≡ record { held = q.held ++ rest; status = q.status } → Goes written faults wants a p all b q'
remains_held {written = w} {faults = f} {wants = m} {a = a} {b = b} {p = p} {q = q} {rest = rest} {all = all} before is_held =
    rw is_held (remains_last before (goes_held b q.held rest q.status))

-- blanks of which the first filled the page
pub goes_blanks : {K : Type 0} {written : K → Option (List ℕ)} {faults wants : K → ℕ} {a b : K} {p q r r' : PageState} (n k : ℕ) → n < k → q ≡ record { held = p.held ++ replicate n 32; status = p.status } → Goes written faults wants a q [] b r → r' ≡ record { held = r.held ++ replicate (k - n) 32; status = r.status } → Goes written faults wants a p (replicate k 32) b r'
goes_blanks {written = w} {faults = f} {wants = m} {a = a} {b = b} {p = p} {q = q} {r = r} {r' = r'} n k less is_held step is_left =
    let first : Goes w f m a p (replicate n 32) a q = rw is_held (goes_held a p.held (replicate n 32) p.status) in
    let left : Goes w f m b r (replicate (k - n) 32) b r' = rw is_left (goes_held b r.held (replicate (k - n) 32) r.status) in
    let e : n + (k - n) ≡ k = omega (arith, less) in
    subst (λ l. Goes w f m a p l b r') (replicate-append-replicate n (k - n) 32 ∙ ap (λ i. replicate i 32) e) (goes_then first (goes_then step left))

-- one more item of a list
pub remains_item : {K : Type 0} {written : K → Option (List ℕ)} {faults wants : K → ℕ} {a b c : K} {p q r : PageState} {all : List ℕ} {X : Type 0} (f : List X → List ℕ) (text : X → List ℕ) (xs : List X) (i : ℕ) (x : X) → ((y : X) (ys : List X) → f (y ∷ ys) ≡ text y ++ f ys) → i < length xs → x ≡ get_or xs i x → Remains written faults wants a p (f (drop i xs)) all b q → Goes written faults wants b q (text x) c r → Remains written faults wants a p (f (drop (i + 1) xs)) all c r
remains_item {written = w} {faults = f'} {wants = m} {a = a} {b = b} {p = p} {q = q} {all = all} f text xs i x step inside is before goes =
    let e : f (drop i xs) ≡ text x ++ f (drop (i + 1) xs) = rw (drop-cons xs i x inside, step, ← is, add-one) in
    remains_less (f (drop (i + 1) xs)) (subst (λ l. Remains w f' m a p l all b q) e before) goes

-- one more item of a list whose text depends on where its parts stand
pub remains_item_at : {K : Type 0} {written : K → Option (List ℕ)} {faults wants : K → ℕ} {a b c : K} {p q r : PageState} {all : List ℕ} {X : Type 0} (f : ℕ → List X → List ℕ) (bytes : List ℕ) (xs : List X) (i : ℕ) (x : X) → ((ys : List X) → f i (x ∷ ys) ≡ bytes ++ f (suc i) ys) → i < length xs → x ≡ get_or xs i x → Remains written faults wants a p (f i (drop i xs)) all b q → Goes written faults wants b q bytes c r → Remains written faults wants a p (f (i + 1) (drop (i + 1) xs)) all c r
remains_item_at {written = w} {faults = f'} {wants = m} {a = a} {b = b} {p = p} {q = q} {all = all} f bytes xs i x step inside is before goes =
    let e : f i (drop i xs) ≡ bytes ++ f (i + 1) (drop (i + 1) xs) = rw (drop-cons xs i x inside, ← is, step, add-one) in
    remains_less (f (i + 1) (drop (i + 1) xs)) (subst (λ l. Remains w f' m a p l all b q) e before) goes

-- the end of a list
pub remains_end : {K : Type 0} {written : K → Option (List ℕ)} {faults wants : K → ℕ} {a b c : K} {p q r : PageState} {all bytes : List ℕ} {X : Type 0} (f : List X → List ℕ) (xs : List X) (i : ℕ) → length xs ≤ i → f [] ≡ bytes → Remains written faults wants a p (f (drop i xs)) all b q → Goes written faults wants b q bytes c r → Goes written faults wants a p all c r
remains_end {written = w} {faults = f'} {wants = m} {a = a} {b = b} {p = p} {q = q} {all = all} f xs i ends is before goes =
    let e : drop i xs ≡ [] = drop_all i xs ends in
    remains_last (subst (λ l. Remains w f' m a p l all b q) (ap f e ∙ is) before) goes

pub remains_none : {K : Type 0} {written : K → Option (List ℕ)} {faults wants : K → ℕ} {a b : K} {p q : PageState} {all : List ℕ} {X : Type 0} (f : List X → List ℕ) (xs : List X) (i : ℕ) → length xs ≤ i → f [] ≡ [] → Remains written faults wants a p (f (drop i xs)) all b q → Goes written faults wants a p all b q
remains_none {b = b} {q = q} f xs i ends is before = remains_end f xs i ends is before (goes_nowhere b q)

-- what is held was handed to the sink, which failed
pub handed_fault : {K : Type 0} {written : K → Option (List ℕ)} {faults wants : K → ℕ} {a b : K} {held : List ℕ} {u : Unit {0}} (r : Result (Unit {0}) WriteEnd) → r ≡ Err sink.Fault → AppendsPrefix (written a) (written b) held → HasCauseOf sink.Fault (faults a) (faults b) r → HasCauseOf sink.Memory (wants a) (wants b) r → Goes written faults wants a (record { held = held; status = Ok u }) [] b (record { held = []; status = Err Fault })
handed_fault {a = a} {b = b} {held = held} {u = u} r is front fault want =
    goes_handed a b held u (Err Fault) tt front (record { later = fault.later; failed = λ _. fault.failed is }) (record { later = want.later; failed = λ e. cc })

-- what is held was handed to the sink, which had no memory
pub handed_memory : {K : Type 0} {written : K → Option (List ℕ)} {faults wants : K → ℕ} {a b : K} {held : List ℕ} {u : Unit {0}} (r : Result (Unit {0}) WriteEnd) → r ≡ Err sink.Memory → AppendsPrefix (written a) (written b) held → HasCauseOf sink.Fault (faults a) (faults b) r → HasCauseOf sink.Memory (wants a) (wants b) r → Goes written faults wants a (record { held = held; status = Ok u }) [] b (record { held = []; status = Err Memory })
handed_memory {a = a} {b = b} {held = held} {u = u} r is front fault want =
    goes_handed a b held u (Err Memory) tt front (record { later = fault.later; failed = λ e. cc }) (record { later = want.later; failed = λ _. want.failed is })

pub remains_end_at : {K : Type 0} {written : K → Option (List ℕ)} {faults wants : K → ℕ} {a b c : K} {p q r : PageState} {all bytes : List ℕ} {X : Type 0} (f : ℕ → List X → List ℕ) (xs : List X) (i : ℕ) → length xs ≤ i → f i [] ≡ bytes → Remains written faults wants a p (f i (drop i xs)) all b q → Goes written faults wants b q bytes c r → Goes written faults wants a p all c r
remains_end_at f xs i ends is before goes = remains_end (f i) xs i ends is before goes

-- one more item of a list whose items are copied
pub remains_copy : {K : Type 0} {written : K → Option (List ℕ)} {faults wants : K → ℕ} {a b c : K} {p q r : PageState} {all : List ℕ} {X : Type 0} (f : List X → List ℕ) (text : X → List ℕ) (xs : List X) (i : ℕ) (d : X) → ((y : X) (ys : List X) → f (y ∷ ys) ≡ text y ++ f ys) → i < length xs → Remains written faults wants a p (f (drop i xs)) all b q → Goes written faults wants b q (text (get_or xs i d)) c r → Remains written faults wants a p (f (drop (i + 1) xs)) all c r
remains_copy {written = w} {faults = f'} {wants = m} {a = a} {b = b} {p = p} {q = q} {all = all} f text xs i d step inside before goes =
    let e : f (drop i xs) ≡ text (get_or xs i d) ++ f (drop (i + 1) xs) = rw (drop-cons xs i d inside, step, add-one) in
    remains_less (f (drop (i + 1) xs)) (subst (λ l. Remains w f' m a p l all b q) e before) goes

-- the same bytes, spelled otherwise
pub goes_as : {K : Type 0} {written : K → Option (List ℕ)} {faults wants : K → ℕ} {a b : K} {p q : PageState} {xs ys : List ℕ} → ys ≡ xs → Goes written faults wants a p xs b q → Goes written faults wants a p ys b q
goes_as {written = w} {faults = f} {wants = n} {a = a} {b = b} {p = p} {q = q} e goes = subst (λ l. Goes w f n a p l b q) (sym e) goes

-- from an empty page on, what was printed and handed on
pub printed_whole : {K : Type 0} {written : K → Option (List ℕ)} {faults wants : K → ℕ} {a b c : K} {p q r : PageState} {bytes : List ℕ} → p ≡ record { held = []; status = Ok tt } → Goes written faults wants a p bytes b q → Goes written faults wants b q [] c r → Printed written faults wants a c r bytes
printed_whole {written = w} {faults = f} {wants = n} {a = a} {b = b} {c = c} {p = p} {q = q} {r = r} {bytes = bytes} fresh goes last =
    let first : Goes w f n a (record { held = []; status = Ok tt }) bytes b q = rw fresh at goes in
    let start : Printed w f n a a (record { held = []; status = Ok tt }) [] = nothing_printed w f n a in
    let whole : Printed w f n a c r (bytes ++ []) = last.prints a bytes (first.prints a [] start) in
    subst (λ l. Printed w f n a c r l) (append-nil bytes) whole

-- with nothing held all was written
pub all_handed : (old new : Option (List ℕ)) (held bytes : List ℕ) (status : Result (Unit {0}) PrintEnd) → held ≡ [] → OnOk status (Handed old new held bytes) → OnOk status (Appends old new bytes)
all_handed old new held bytes (Ok u) none h = subst (λ l. Appends old new l) (sym (append-nil h.front) ∙ ap (λ l. h.front ++ l) (sym none) ∙ h.whole) h.taken
all_handed old new held bytes (Err e) none h = tt
