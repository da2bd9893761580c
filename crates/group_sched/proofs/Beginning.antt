-- How a dispatch stands before its first item.
use Rattle.std.proofs.Common.{◌≡◌, ℕ, zero, suc, ◌<◌, ◌≤◌, ◌+◌, ◌*◌, ◌/◌, ◌==◌, ◌&&◌, ◌||◌, true, List, [], ◌∷◌, length, map, drop, slice_index, get_or, refl, sym, ap, ◌∙◌, subst, arith, add-one}
use Rattle.std.proofs.Math.Seq.{drop-cons}
use Rattle.std.proofs.lemmas.Bool.Decides.{nat_tests}
use Rattle.std.specs.Prelude.{None}
use Rattle.std.specs.List.{list_any, list_all}
use Rattle.std.specs.declared.vec.Vec.{Vec}
use Rattle.std.specs.declared.alloc.Global.{Global}
use Rattle.list_law.proofs.Tests.{and_left, and_right}
use Rattle.traces.specs.Events.{Location, buffer}
use Rattle.dispatch_semantics.specs.Store.{Store, put}
use Rattle.group_items.specs.declared.play.Play.{Play}
use Rattle.dispatch_semantics.specs.Dispatch.{controls}
use Rattle.group_items.specs.Events.{events_of, weight_of}
use Rattle.group_items.specs.Memory.{stored}
use Rattle.group_items.specs.Sides.{Begun, fresh, has_keys, keys_repeat}
use Rattle.group_items.specs.Schedule.{Setup, now, most_weight}
use Rattle.group_items.specs.Playing.{IsAt}
use Rattle.dispatch_case.specs.Cases.{Buffer, buffer_view, is_short, most_numbers, is_at, buffers_repeat}
use Rattle.group_sched.specs.Start.{size_of, spread, with_buffers}

-- one word more is put
pub spread_more : (at : ℕ → Location) (k : ℕ) (words : List ℕ) (w : ℕ) (store : Store) → k < length words → w ≡ slice_index words k → spread at (4 * (k + 1)) (drop (k + 1) words) (put 0 (at (4 * k)) w store) ≡ spread at (4 * k) (drop k words) store
spread_more at k words w store inside is =
    let next : 4 * (k + 1) ≡ 4 * k + 4 = omega arith in
    ap (λ n. spread at n (drop (k + 1) words) (put 0 (at (4 * k)) w store)) next
    ∙ ap (λ n. spread at (4 * k + 4) (drop n words) (put 0 (at (4 * k)) w store)) (add-one k)
    ∙ ap (λ v. spread at (4 * k + 4) (drop (suc k) words) (put 0 (at (4 * k)) v store)) is
    ∙ ap (λ l. spread at (4 * k) l store) (sym (drop-cons words k 0 inside))

-- sets and bindings come twice among buffers as among their sizes
any_same : (set binding : ℕ) (bs : List Buffer) → list_any (has_keys set binding) (map size_of bs) ≡ list_any (is_at set binding) bs
any_same set binding [] = refl
any_same set binding (b ∷ bs) = ap (λ t. ((b.0 == set) && (b.1 == binding)) || t) (any_same set binding bs)

pub repeats_same : (bs : List Buffer) → keys_repeat (map size_of bs) ≡ buffers_repeat bs
repeats_same [] = refl
repeats_same (b ∷ bs) = ap (λ t. t || keys_repeat (map size_of bs)) (any_same b.0 b.1 bs) ∙ ap (λ t. list_any (is_at b.0 b.1) bs || t) (repeats_same bs)

-- nothing is made yet
pub begins : (d : Setup) (at : ℕ → Begun) (p : Play) → length p.passed.items ≡ d.count → ((i : ℕ) → i < d.count → slice_index p.passed.items i ≡ 0) → p.group ≡ d.group → 0 < d.group → ((i : ℕ) → i < d.count → i / d.group < length p.store.maps.items) → ((i : ℕ) → i < d.count → at i ≡ fresh (d.told i)) → d.store ≡ stored p.store.maps.items → p.events.items ≡ [] → p.weight ≡ 0 → IsAt d at p
begins d at p all zeros group some rooms begun store none weight =
    let now_none : events_of p.events.items ≡ [] = ap events_of none in
    let light : p.weight ≤ most_weight = subst (λ n. n ≤ most_weight) (sym weight) (omega arith) in
    record {
      all = all;
      group = group;
      some = some;
      rooms = rooms;
      begun = λ i less. begun i less ∙ ap (λ es. record { told = d.told i; past = (now d es).past i; asked = None }) (sym now_none);
      passes = λ i less. zeros i less ∙ ap (λ es. controls ((now d es).past i).events) (sym now_none);
      few = λ i less. subst (λ n. n ≤ p.weight) (sym (zeros i less)) (omega arith);
      store = ap (λ es. (now d es).store) now_none ∙ store;
      weighs = weight ∙ ap weight_of (sym now_none);
      light = light;
    }

pub spread_done : (at : ℕ → Location) (n k : ℕ) (words : List ℕ) (store : Store) → length words ≤ k → spread at n (drop k words) store ≡ store
spread_done at n zero [] store h = refl
spread_done at n (suc k) [] store h = refl
spread_done at n zero (w ∷ ws) store h = absurd (omega (arith, h))
spread_done at n (suc k) (w ∷ ws) store h = spread_done at n k ws store (omega (arith, h))

-- the lists of buffers
module _ (B : Type 0) (f : B → Buffer) where
  pub one_short : (bs : List B) (k : ℕ) (d : B) → k < length bs → list_all (λ (b : Buffer). is_short b.2) (map f bs) ≡ true → is_short (f (get_or bs k d)).2 ≡ true
  one_short [] k d inside all = absurd (omega (arith, inside))
  one_short (b ∷ bs) zero d inside all = and_left (is_short (f b).2) (list_all (λ (b : Buffer). is_short b.2) (map f bs)) all
  one_short (b ∷ bs) (suc k) d inside all = one_short bs k d (omega (arith, inside)) (and_right (is_short (f b).2) (list_all (λ (b : Buffer). is_short b.2) (map f bs)) all)

  pub buffers_next : (bs : List B) (k : ℕ) (d : B) (store : Store) → k < length bs → with_buffers (map f (drop (k + 1) bs)) (spread (buffer (f (get_or bs k d)).0 (f (get_or bs k d)).1) 0 (f (get_or bs k d)).2 store) ≡ with_buffers (map f (drop k bs)) store
  buffers_next bs k d store inside =
      ap (λ n. with_buffers (map f (drop n bs)) (spread (buffer (f (get_or bs k d)).0 (f (get_or bs k d)).1) 0 (f (get_or bs k d)).2 store)) (add-one k)
      ∙ ap (λ l. with_buffers (map f l) store) (sym (drop-cons bs k d inside))

pub short_is : (ws : List ℕ) → is_short ws ≡ true → length ws ≤ most_numbers
short_is ws h = grind (arith, nat_tests, h)

pub short_here : (bs : List (ℕ × ℕ × Vec ℕ Global)) (k : ℕ) (b : ℕ × ℕ × Vec ℕ Global) → k < length bs → b ≡ get_or bs k b → list_all (λ (b : Buffer). is_short b.2) (map buffer_view bs) ≡ true → length b.2.items ≤ most_numbers
short_here bs k b inside is all =
    short_is b.2.items (subst (λ (x : ℕ × ℕ × Vec ℕ Global). is_short (buffer_view x).2 ≡ true) (sym is) (one_short (ℕ × ℕ × Vec ℕ Global) buffer_view bs k b inside all))
