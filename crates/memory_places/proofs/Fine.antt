-- Whether the Private variables that are mentioned have values.
use Rattle.std.proofs.Common.{◌≡◌, ◌<◌, ◌≤◌, ℕ, ◌+◌, ◌&&◌, Bool, true, false, List, refl, ap, sym, ◌∙◌, is_some, length, drop, get_or, if◌then◌else◌}
use Rattle.std.proofs.Math.ListN.{drop_of_length-le}
use Rattle.std.proofs.lemmas.List.{drop_more}
use Rattle.std.specs.List.{list_all}
use Rattle.spv_ops.specs.declared.StorageClass.TheVariants as storage
use Rattle.spv_module.specs.State.{ModuleState}
use Rattle.spv_module.specs.declared.inst.Inst.{Inst}
use Rattle.spv_module.specs.declared.tree.Value.{Value}
use Rattle.module_semantics.specs.Accesses.{initial}
use Rattle.module_semantics.specs.Run.{have_values, has_value_if, is_fine_private}
use Rattle.module_semantics.specs.Setting.{Setting, is_in_class, is_mentioned}
use Rattle.memory_places.specs.Kernel.{bare_from, bare_with, kernel, plain}
use Rattle.memory_places.specs.Mentions.{AreMentioned, is_asked_by, is_fine_by}

asked : (m : ModuleState) (entry : ℕ) (values : List (ℕ × Value)) (g : Inst) (a b : Bool)
    → (if a && b then is_some (initial (bare_with m values) g) else true) ≡ (elim a [ true ↦ has_value_if (plain (kernel m entry values)) g b | false ↦ true ])
asked m entry values g true true = refl
asked m entry values g true false = refl
asked m entry values g false b = refl

one : (m : ModuleState) (entry : ℕ) (values : List (ℕ × Value)) (g : Inst) → is_fine_by (bare_with m values) (is_mentioned (bare_from m entry)) g ≡ is_fine_private (plain (kernel m entry values)) g
unfolding is_fine_by
one m entry values g = asked m entry values g (is_in_class storage.Private g) (is_mentioned (bare_from m entry) g.result)

pub fine_are : (m : ModuleState) (entry : ℕ) (values : List (ℕ × Value)) (mentioned : ℕ → Bool) → AreMentioned m entry mentioned
    → list_all (is_fine_by (bare_with m values) mentioned) m.globals ≡ have_values (plain (kernel m entry values))
fine_are m entry values mentioned h =
    let same : mentioned ≡ is_mentioned (bare_from m entry) = λ i id. h.each id i in
    let fine : is_fine_by (bare_with m values) (is_mentioned (bare_from m entry)) ≡ is_fine_private (plain (kernel m entry values)) = λ i g. one m entry values g i in
    ap (λ (test : ℕ → Bool). list_all (is_fine_by (bare_with m values) test) m.globals) same ∙ ap (λ (p : Inst → Bool). list_all p m.globals) fine

-- what is not asked is fine, and what is asked if it has a value
pub unasked_fine : (s : Setting) (mentioned : ℕ → Bool) (g : Inst) → is_asked_by mentioned g ≡ false → is_fine_by s mentioned g ≡ true
unfolding is_fine_by
unasked_fine s mentioned g a = ap (λ (b : Bool). if b then is_some (initial s g) else true) a

pub asked_fine : (s : Setting) (mentioned : ℕ → Bool) (g : Inst) (has : Bool) → is_asked_by mentioned g ≡ true → has ≡ is_some (initial s g) → is_fine_by s mentioned g ≡ has
unfolding is_fine_by
asked_fine s mentioned g has a h = ap (λ (b : Bool). if b then is_some (initial s g) else true) a ∙ sym h

-- a test of all, one after another
pub all_next : (p : Inst → Bool) (gs : List Inst) (k : ℕ) (d : Inst) (all : Bool) → k < length gs → list_all p (drop k gs) ≡ all → p (get_or gs k d) ≡ true → list_all p (drop (k + 1) gs) ≡ all
all_next p gs k d all inside so here =
    ap (λ (b : Bool). b && list_all p (drop (k + 1) gs)) (sym here) ∙ (ap (list_all p) (sym (drop_more gs k d inside)) ∙ so)

pub all_stop : (p : Inst → Bool) (gs : List Inst) (k : ℕ) (d : Inst) (all : Bool) → k < length gs → list_all p (drop k gs) ≡ all → p (get_or gs k d) ≡ false → false ≡ all
all_stop p gs k d all inside so here =
    ap (λ (b : Bool). b && list_all p (drop (k + 1) gs)) (sym here) ∙ (ap (list_all p) (sym (drop_more gs k d inside)) ∙ so)

pub all_end : (p : Inst → Bool) (gs : List Inst) (k : ℕ) (all : Bool) → length gs ≤ k → list_all p (drop k gs) ≡ all → true ≡ all
all_end p gs k all past so = ap (list_all p) (sym (drop_of_length-le gs past)) ∙ so

pub ruleset fine_rules = (unasked_fine, asked_fine, all_next, all_stop, all_end)
