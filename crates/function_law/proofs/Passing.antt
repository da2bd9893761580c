-- What a call leaves: of each variable and pointer parameter of the caller that was lent to it, the value that the parameter has at the end.
use Rattle.std.proofs.Common.{◌≡◌, ◌≢◌, ◌≤◌, ◌⊎◌, ◌==◌, ℕ, suc, true, false, List, [], ◌∷◌, length, map, Option, Some, inl, inr, refl, sym, ap, ◌∙◌, subst, arith}
use Rattle.std.specs.Prelude.{option_and_then}
use Rattle.std.specs.List.{list_any}
use Rattle.std.proofs.lemmas.Bool.Decides.{eqb_tells}
use Rattle.spv_module.specs.declared.inst.Id.{Id}
use Rattle.spv_module.specs.declared.inst.Inst.{Inst}
use Rattle.spv_module.specs.declared.inst.Function.{Function}
use Rattle.spv_types.specs.Tree.{ValueTree}
use Rattle.op_semantics.specs.Component.{each_one}
use Rattle.op_semantics.specs.Composite.{extracted}
use Rattle.profile_rules.specs.MemoryRules.{is_pointer, is_other_pointer, repeats}
use Rattle.module_semantics.specs.Setting.{Setting}
use Rattle.module_semantics.specs.State.{Root, global, own, lent, Held, value, pointer, Frame, Conf, call_at}
use Rattle.module_semantics.specs.Operands.{held}
use Rattle.module_semantics.specs.Steps.{passed}
use Rattle.glsl_ast.specs.Tree.{Param, param}
use Rattle.glsl_semantics.specs.Shapes.{typed}
use Rattle.glsl_semantics.specs.States.{State, found_in}
use Rattle.glsl_semantics.specs.Expressions.{Argument}
use Rattle.glsl_semantics.specs.Run.{last_value}
use Rattle.list_law.proofs.Tests.{not_both, or_left, or_right, and_off}
use Rattle.fits_law.proofs.Operations.{before_some}
use Rattle.fits_law.proofs.Parts.{extracted_none}
use Rattle.agree_law.specs.Agree.{Naming, AreApart, IfPointer, variable_in, target_value}
use Rattle.agree_law.specs.Outs.{Outs, IsOut, NotOut, AreOnce, AreLent, AreOuts}
use Rattle.agree_law.proofs.Returning.{IsLeft}
use Rattle.call_law.specs.Waits.{Wait, LentBy, IsUnlent}
use Rattle.call_law.specs.Known.{is_parameter, IsOfBelow, from_call, IsWhole, IsLending, LendsWhole}
use Rattle.call_law.proofs.Inside.{wait_length}
use Rattle.call_law.proofs.LeftBehind.{waiting, left_behind}
use Rattle.call_law.proofs.Valued.{under, first_call}
use Rattle.call_law.proofs.Lending.{if_pointer, of_pointer, argument_whole}
use Rattle.function_law.specs.Passed.{NamesMemory, IsArgument, IsLentAs, ArePassed}

-- an argument that is a pointer is whole
pub whole_in : (s : Setting) (whole : LendsWhole s) (ds : List (Frame × ℕ)) (f : Frame) (at : IsLending s ds f) (ns : List ℕ) (hs : List Held) → each_one (held s f) ns ≡ Some hs → list_any (is_other_pointer s.of.globals f.function) ns ≡ false
    → (n : ℕ) (r : Root) (path : List ℕ) → IsArgument n (pointer r path) ns hs → IsWhole s ds f n r path
whole_in s whole ds f at [] hs e fine n r path is = absurd is
whole_in s whole ds f at (k ∷ ns) [] e fine n r path is = absurd is
whole_in s whole ds f at (k ∷ ns) (h ∷ hs) e fine n r path (inl is) =
    let b = before_some (held s f k) (each_one (held s f) ns) (h ∷ hs) e in
    let same : h ≡ b.0 = (let all : h ∷ hs ≡ b.0 ∷ b.1 = b.4 in cc) in
    subst (λ j. IsWhole s ds f j r path) is.0 (of_pointer (IsWhole s ds f k) (Some b.0) r path (ap (λ g. Some g) (sym same ∙ is.1)) (argument_whole s whole ds f at k b.0 b.2 (or_left (is_other_pointer s.of.globals f.function k) _ fine)))
whole_in s whole ds f at (k ∷ ns) (h ∷ hs) e fine n r path (inr is) =
    let b = before_some (held s f k) (each_one (held s f) ns) (h ∷ hs) e in
    let same : b.1 ≡ hs = (let all : h ∷ hs ≡ b.0 ∷ b.1 = b.4 in cc) in
    whole_in s whole ds f at ns hs (b.3 ∙ ap (λ l. Some l) same) (or_right (is_other_pointer s.of.globals f.function k) _ fine) n r path is

-- what was lent was an argument
lent_argument : (ds : List (Frame × ℕ)) (ns : List ℕ) (hs : List Held) (depth n : ℕ) → length ns ≡ length hs → LentBy (map (passed (length ds)) hs) depth n → (k : ℕ) × (r : Root) × (path : List ℕ) × IsArgument k (pointer r path) ns hs × (from_call ds r ≡ lent depth n)
lent_argument ds ns [] depth n same is = absurd is
lent_argument ds [] (h ∷ hs) depth n same is = absurd (omega (arith, same))
lent_argument ds (j ∷ ns) (h ∷ hs) depth n same (inr is) = let l = lent_argument ds ns hs depth n (let fewer : length ns ≡ length hs = omega (arith, same) in fewer) is in (l.0, l.1, l.2, inr l.3, l.4)
lent_argument ds (j ∷ ns) (value v ∷ hs) depth n same (inl is) = absurd is
lent_argument ds (j ∷ ns) (pointer (global k) path ∷ hs) depth n same (inl is) = absurd is
lent_argument ds (j ∷ ns) (pointer (own k) path ∷ hs) depth n same (inl is) = (j, own k, path, inl (refl, refl), ap (λ d. lent d k) is.0 ∙ ap (lent depth) is.1)
lent_argument ds (j ∷ ns) (pointer (lent d k) path ∷ hs) depth n same (inl is) = (j, lent d k, path, inl (refl, refl), ap (λ e. lent e k) is.0 ∙ ap (lent depth) is.1)

lengths : (s : Setting) (f : Frame) (ns : List ℕ) (hs : List Held) → each_one (held s f) ns ≡ Some hs → length ns ≡ length hs
lengths s f [] [] e = refl
lengths s f [] (h ∷ hs) e = cc
lengths s f (n ∷ ns) hs e = let b = before_some (held s f n) (each_one (held s f) ns) hs e in ap suc (lengths s f ns b.1 b.3) ∙ sym (ap length b.4)

-- d, y: where the function returns
module _ (m other : Naming) (c d : Conf) (y : State) where
  -- the parameter has this value there
  abbrev Ends : ℕ → Root → ValueTree → Type 0
  Ends p r v = target_value d (from_call c.below r) [] ≡ Some v

  -- the values that variables and pointer parameters of the caller get
  pub record AreLeft (ns : List ℕ) (hs : List Held) (qs : List Param) (as' : List Argument) : Type 0 where
    pub outs : Outs
    pub are : AreOuts m y.frames qs as' outs
    pub lent : AreLent m outs
    pub from : (n : ℕ) (v : ValueTree) → IsOut n v outs → (r : Root) × IsArgument n (pointer r []) ns hs × (target_value d (from_call c.below r) [] ≡ Some v)
    pub all : (n : ℕ) (r : Root) (path : List ℕ) → NotOut n outs → IsArgument n (pointer r path) ns hs → ⊥
    pub among : (n : ℕ) → list_any (λ k. k == n) ns ≡ false → NotOut n outs

  -- where each parameter that stands for a variable has a value at the end
  abbrev pub AllEnd : List (Id × Id) → List Held → Type 0
  AllEnd (p ∷ ps) (h ∷ hs) = IfPointer (Some h) (λ r path. (path ≡ []) × ((v : ValueTree) × (last_value (found_in y.frames (other.name p.0.0)) ≡ Some (typed (other.shape p.0.0) v)) × (target_value d (from_call c.below r) [] ≡ Some v))) × AllEnd ps hs
  AllEnd _ _ = Unit {0}

  pub are_left : (ps : List (Id × Id)) (ns : List ℕ) (hs : List Held) (qs : List Param) (as' : List Argument) → ArePassed m other c ps ns hs qs as' → AllEnd ps hs → AreLeft ns hs qs as'
  are_left [] [] [] [] [] are end = record { outs = []; are = tt; lent = tt; from = λ n v is. absurd is; all = λ n r path out is. is; among = λ n off. tt }
  are_left [] (n ∷ ns) hs qs as' are end = absurd are
  are_left [] [] (h ∷ hs) qs as' are end = absurd are
  are_left [] [] [] (q ∷ qs) as' are end = absurd are
  are_left [] [] [] [] (a ∷ as') are end = absurd are
  are_left (p ∷ ps) [] hs qs as' are end = absurd are
  are_left (p ∷ ps) (n ∷ ns) [] qs as' are end = absurd are
  are_left (p ∷ ps) (n ∷ ns) (h ∷ hs) [] as' are end = absurd are
  are_left (p ∷ ps) (n ∷ ns) (h ∷ hs) (q ∷ qs) [] are end = absurd are
  are_left (p ∷ ps) (n ∷ ns) (value v ∷ hs) (param true t w ∷ qs) (a ∷ as') are end = absurd are.0
  are_left (p ∷ ps) (n ∷ ns) (pointer r path ∷ hs) (param false t w ∷ qs) (a ∷ as') are end = absurd are.0
  are_left (p ∷ ps) (n ∷ ns) (value v ∷ hs) (param false t w ∷ qs) (a ∷ as') are end =
      let l = are_left ps ns hs qs as' are.1 end.1 in
      record {
        outs = l.outs;
        are = l.are;
        lent = l.lent;
        from = λ k u is. let g = l.from k u is in (g.0, inr g.1, g.2);
        all = λ k u path out is. elim is [ inl here ↦ (let never : value v ≡ pointer u path = here.1 in cc) | inr later ↦ l.all k u path out later ];
        among = λ k off. l.among k (or_right (n == k) _ off);
      }
  are_left (p ∷ ps) (n ∷ ns) (pointer r path ∷ hs) (param true t w ∷ qs) (a ∷ as') are end =
      let l = are_left ps ns hs qs as' are.1 end.1 in
      let g : IsLentAs m other c p.0.0 n r path w a = are.0 in
      let e = end.0 in
      record {
        outs = (n, e.1.0) ∷ l.outs;
        are = (ap (λ x. last_value (found_in y.frames x)) g.name ∙ e.1.1 ∙ ap (λ u. Some (typed u e.1.0)) g.shape, (g.old, g.place), l.are);
        lent = (g.kind, l.lent);
        from = λ k u is. elim is [
          | inl here ↦ (r, inl (sym here.0, ap (pointer r) e.0), e.1.2 ∙ ap (λ x. Some x) (sym here.1))
          | inr later ↦ let g = l.from k u later in (g.0, inr g.1, g.2)
        ];
        all = λ k u way out is. elim is [ inl here ↦ out.0 (sym here.0) | inr later ↦ l.all k u way out.1 later ];
        among = λ k off. (
          (λ same. let on : (n == k) ≡ true = elim (eqb_tells n k) [ inl w ↦ w.0 | inr w ↦ absurd (w.1 (sym same)) ] in not_both (n == k) on (or_left (n == k) _ off)),
          l.among k (or_right (n == k) _ off),
        );
      }

  -- no variable is lent twice
  pub are_once : (s : Setting) (f : Function) (ps : List (Id × Id)) (ns : List ℕ) (hs : List Held) (qs : List Param) (as' : List Argument) (are : ArePassed m other c ps ns hs qs as') (end : AllEnd ps hs)
      → ((n : ℕ) (r : Root) (path : List ℕ) → IsArgument n (pointer r path) ns hs → is_pointer s.of.globals f n ≡ true) → repeats (is_pointer s.of.globals f) ns ≡ false → AreOnce (are_left ps ns hs qs as' are end).outs
  unfolding are_left
  are_once s f [] [] [] [] [] are end pointers once = tt
  are_once s f [] (n ∷ ns) hs qs as' are end pointers once = absurd are
  are_once s f [] [] (h ∷ hs) qs as' are end pointers once = absurd are
  are_once s f [] [] [] (q ∷ qs) as' are end pointers once = absurd are
  are_once s f [] [] [] [] (a ∷ as') are end pointers once = absurd are
  are_once s f (p ∷ ps) [] hs qs as' are end pointers once = absurd are
  are_once s f (p ∷ ps) (n ∷ ns) [] qs as' are end pointers once = absurd are
  are_once s f (p ∷ ps) (n ∷ ns) (h ∷ hs) [] as' are end pointers once = absurd are
  are_once s f (p ∷ ps) (n ∷ ns) (h ∷ hs) (q ∷ qs) [] are end pointers once = absurd are
  are_once s f (p ∷ ps) (n ∷ ns) (value v ∷ hs) (param true t w ∷ qs) (a ∷ as') are end pointers once = absurd are.0
  are_once s f (p ∷ ps) (n ∷ ns) (pointer r path ∷ hs) (param false t w ∷ qs) (a ∷ as') are end pointers once = absurd are.0
  are_once s f (p ∷ ps) (n ∷ ns) (value v ∷ hs) (param false t w ∷ qs) (a ∷ as') are end pointers once = are_once s f ps ns hs qs as' are.1 end.1 (λ k r path is. pointers k r path (inr is)) (or_right _ (repeats (is_pointer s.of.globals f) ns) once)
  are_once s f (p ∷ ps) (n ∷ ns) (pointer r path ∷ hs) (param true t w ∷ qs) (a ∷ as') are end pointers once = (
    (are_left ps ns hs qs as' are.1 end.1).among n (and_off (is_pointer s.of.globals f n) _ (or_left _ (repeats (is_pointer s.of.globals f) ns) once) (pointers n r path (inl (refl, refl)))),
    are_once s f ps ns hs qs as' are.1 end.1 (λ k r path is. pointers k r path (inr is)) (or_right _ (repeats (is_pointer s.of.globals f) ns) once),
  )

-- so the caller has that left which its state has to agree with
module _ (s : Setting) (whole : LendsWhole s) (m : Naming) (apart : AreApart m) (c d : Conf) (at : IsLending s c.below c.top) (names : NamesMemory m c.top.function) (rest : List Inst) (i : Inst) (ns : List ℕ) (hs : List Held) (have : each_one (held s c.top) ns ≡ Some hs)
    (fine : list_any (is_other_pointer s.of.globals c.top.function) ns ≡ false) (frame : Frame) (id : ℕ) (below : List (Frame × ℕ)) (is : d.below ≡ (frame, id) ∷ below) (waits : Wait (LentBy (map (passed (length c.below)) hs)) (waiting c rest i) ((frame, id) ∷ below)) where
  abbrev Lent : ℕ → ℕ → Type 0
  Lent = LentBy (map (passed (length c.below)) hs)

  heights : length below ≡ length c.below
  heights = wait_length s Lent [] c.below below waits.2

  -- what a parameter of the call leads to lies in the caller, or further below
  from_own : (n : ℕ) → target_value d (from_call c.below (own n)) [] ≡ option_and_then (extracted []) (frame.variables n)
  from_own n = ap (λ (o : Option Frame). option_and_then (extracted []) (variable_in o n)) (ap (λ l. call_at (length c.below) l) is ∙ (ap (λ k. call_at k ((frame, id) ∷ below)) (sym heights) ∙ first_call (frame, id) below))

  from_lent : (depth n : ℕ) → suc depth ≤ length c.below → target_value d (from_call c.below (lent depth n)) [] ≡ target_value (record d { top = frame; below = below }) (lent depth n) []
  from_lent depth n le = ap (λ (o : Option Frame). option_and_then (extracted []) (variable_in o n)) (ap (λ l. call_at depth l) is ∙ under depth (frame, id) below (subst (λ l. suc depth ≤ l) (sym heights) le))

  argument : (n : ℕ) (r : Root) (path : List ℕ) → IsArgument n (pointer r path) ns hs → IsWhole s c.below c.top n r path
  argument n r path arg = whole_in s whole c.below c.top at ns hs have fine n r path arg

  no_depth : (depth n k : ℕ) → suc depth ≤ length c.below → lent (length c.below) k ≡ lent depth n → ⊥
  no_depth depth n k le same = let height : length c.below ≡ depth = cc in absurd (omega (arith, le, height))

  pub is_left : (outs : Outs) → AreOnce outs → AreLent m outs → ((n : ℕ) (v : ValueTree) → IsOut n v outs → (r : Root) × IsArgument n (pointer r []) ns hs × (target_value d (from_call c.below r) [] ≡ Some v)) → ((n : ℕ) (r : Root) (path : List ℕ) → NotOut n outs → IsArgument n (pointer r path) ns hs → ⊥)
      → IsLeft m apart c (record d { top = frame; below = below }) outs
  is_left outs once lent_so from all = left_behind s Lent m apart c d rest i frame id below outs waits once lent_so variables lents unlent far
    where
      variables : (n : ℕ) (v : ValueTree) → m.is_variable n ≡ true → IsOut n v outs → frame.variables n ≡ Some v
      variables n v mine out = let g = from n v out in by_kind g.0 (argument n g.0 [] g.1).2 g.2
        where
          by_kind : (r : Root) → ((is_parameter c.top.function n ≡ true) × IsOfBelow c.below r × (c.top.ids n ≡ Some (pointer r []))) ⊎ ((is_parameter c.top.function n ≡ false) × (r ≡ own n)) → target_value d (from_call c.below r) [] ≡ Some v → frame.variables n ≡ Some v
          by_kind r (inl p) has = absurd (not_both _ p.0 (names.variables n mine).1)
          by_kind r (inr o) has = sym (extracted_none (frame.variables n)) ∙ (sym (from_own n) ∙ (ap (λ q. target_value d (from_call c.below q) []) (sym o.1) ∙ has))

      lents : (n : ℕ) (v : ValueTree) → m.is_lent n ≡ true → IsOut n v outs → IfPointer (c.top.ids n) (λ r path. Some v ≡ target_value (record d { top = frame; below = below }) r path)
      lents n v mine out = let g = from n v out in by_kind g.0 (argument n g.0 [] g.1).2 g.2
        where
          there : (r : Root) → IsOfBelow c.below r → target_value d (from_call c.below r) [] ≡ Some v → Some v ≡ target_value (record d { top = frame; below = below }) r []
          there (global k) le has = absurd le
          there (own k) le has = absurd le
          there (lent depth k) le has = sym has ∙ from_lent depth k le

          by_kind : (r : Root) → ((is_parameter c.top.function n ≡ true) × IsOfBelow c.below r × (c.top.ids n ≡ Some (pointer r []))) ⊎ ((is_parameter c.top.function n ≡ false) × (r ≡ own n)) → target_value d (from_call c.below r) [] ≡ Some v
              → IfPointer (c.top.ids n) (λ r path. Some v ≡ target_value (record d { top = frame; below = below }) r path)
          by_kind r (inl p) has = subst (λ o. IfPointer o (λ r path. Some v ≡ target_value (record d { top = frame; below = below }) r path)) (sym p.2) (there r p.1 has)
          by_kind r (inr o) has = absurd (not_both _ (names.lents n mine) o.0)

      unlent : (n : ℕ) → m.is_variable n ≡ true → NotOut n outs → Lent (length c.below) n → ⊥
      unlent n mine out lent_it = let g = lent_argument c.below ns hs (length c.below) n (lengths s c.top ns hs have) lent_it in by_kind g.0 g.1 g.2 (argument g.0 g.1 g.2 g.3).2 g.3 g.4
        where
          by_below : (r : Root) → IsOfBelow c.below r → from_call c.below r ≡ lent (length c.below) n → ⊥
          by_below (global k) le same = le
          by_below (own k) le same = le
          by_below (lent depth k) le same = no_depth depth k n le (sym same)

          by_kind : (k : ℕ) (r : Root) (path : List ℕ) → ((is_parameter c.top.function k ≡ true) × IsOfBelow c.below r × (c.top.ids k ≡ Some (pointer r path))) ⊎ ((is_parameter c.top.function k ≡ false) × (r ≡ own k)) → IsArgument k (pointer r path) ns hs → from_call c.below r ≡ lent (length c.below) n → ⊥
          by_kind k r path (inl p) arg same = by_below r p.1 same
          by_kind k r path (inr o) arg same =
              let one : lent (length c.below) k ≡ lent (length c.below) n = sym (ap (from_call c.below) o.1) ∙ same in
              let here : k ≡ n = cc in
              all n r path out (subst (λ j. IsArgument j (pointer r path) ns hs) here arg)

      far : (n : ℕ) → m.is_lent n ≡ true → NotOut n outs → IfPointer (c.top.ids n) (λ r path. IsUnlent Lent r)
      far n mine out = if_pointer _ (c.top.ids n) (λ r path has. by_root r path has (of_pointer _ (c.top.ids n) r path has (at.parameters n (names.lents n mine))).0)
        where
          by_kind : (depth k : ℕ) (path : List ℕ) → c.top.ids n ≡ Some (pointer (lent depth k) path) → suc depth ≤ length c.below → (j : ℕ) (q : Root) (way : List ℕ) → IsArgument j (pointer q way) ns hs → from_call c.below q ≡ lent depth k
              → ((is_parameter c.top.function j ≡ true) × IsOfBelow c.below q × (c.top.ids j ≡ Some (pointer q way))) ⊎ ((is_parameter c.top.function j ≡ false) × (q ≡ own j)) → ⊥
          by_kind depth k path has le j q way arg same (inr o) = no_depth depth k j le (sym (ap (from_call c.below) o.1) ∙ same)
          by_kind depth k path has le j (global g) way arg same (inl p) = p.1
          by_kind depth k path has le j (own g) way arg same (inl p) = p.1
          by_kind depth k path has le j (lent e g) way arg same (inl p) = elim (eqb_tells j n) [
            | inl w ↦ all n (lent e g) way out (subst (λ u. IsArgument u (pointer (lent e g) way) ns hs) w.1 arg)
            | inr w ↦
                of_pointer (λ q way. lent depth k ≢ q) (c.top.ids j) (lent e g) way p.2
                (of_pointer (λ r path. IfPointer (c.top.ids j) (λ q way. r ≢ q)) (c.top.ids n) (lent depth k) path has (at.apart n j (names.lents n mine) p.0 (λ one. w.1 (sym one)))) (sym same)
          ]

          by_root : (r : Root) (path : List ℕ) → c.top.ids n ≡ Some (pointer r path) → IsOfBelow c.below r → IsUnlent Lent r
          by_root (global k) path has le = absurd le
          by_root (own k) path has le = absurd le
          by_root (lent depth k) path has le = λ lent_it. let g = lent_argument c.below ns hs depth k (lengths s c.top ns hs have) lent_it in by_kind depth k path has le g.0 g.1 g.2 g.3 g.4 (argument g.0 g.1 g.2 g.3).2
