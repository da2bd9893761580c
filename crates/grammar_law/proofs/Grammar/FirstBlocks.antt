-- The variables of a function stand in a reached block, where its module was read: they stand in its first.
use Rattle.std.proofs.Common.{◌≡◌, ℕ, zero, suc, true, false, List, [], ◌∷◌, Some, inl, inr, sym, ap, ◌∙◌, subst}
use Rattle.std.specs.Prelude.{slice_get}
use Rattle.spv_words.specs.Words.{words}
use Rattle.spv_ops.specs.Opcode.{is}
use Rattle.spv_ops.specs.declared.Op.TheVariants as code
use Rattle.spv_module.specs.State.{ModuleState}
use Rattle.spv_module.specs.Lists.{functions}
use Rattle.spv_module.specs.declared.inst.Inst.{Inst}
use Rattle.spv_module.specs.declared.inst.Block.{Block}
use Rattle.spv_module.specs.declared.inst.Function.{Function}
use Rattle.structure_rules.specs.Graph.{graph, nth}
use Rattle.profile_rules.specs.Places.{is_variable}
use Rattle.module_check.specs.ReadFrom.{IsReadFrom}
use Rattle.grammar_law.specs.Declares.{HaveNoVariable, NoneDeclare, DeclaresFirst}
use Rattle.grammar_law.proofs.Formed.Declares.{declares_first}
use Rattle.grammar_law.proofs.Formed.Reach.{first_marked}
use Rattle.call_law.specs.Known.{IsFunctionOf}
use Rattle.claim_law.specs.Claimed.{IsIn}

pub none_in : (is : List Inst) (i : Inst) → HaveNoVariable is → IsIn i is → is_variable i ≡ true → ⊥
none_in [] i none there on = absurd there
none_in (x ∷ is) i none (inl same) on = clash (sym on ∙ (ap is_variable (sym same) ∙ none.0))
  where
    clash : true ≡ false → ⊥
    clash e = cc
none_in (x ∷ is) i none (inr there) on = none_in is i none.1 there on

none_placed : (bs : List Block) (c : ℕ) (holder : Block) (i : Inst) → NoneDeclare bs → slice_get bs c ≡ Some holder → IsIn i holder.insts → is_variable i ≡ true → ⊥
none_placed [] c holder i none there among on = cc
none_placed (b ∷ bs) zero holder i none there among on = none_in b.insts i none.0 (subst (λ (x : Block). IsIn i x.insts) (sym same) among) on
  where
    same : b ≡ holder
    same = cc
none_placed (b ∷ bs) (suc c) holder i none there among on = none_placed bs c holder i none.1 there among on

pub as_function : (fs : List Function) (f : Function) → IsIn f fs → IsFunctionOf f fs
as_function [] f there = absurd there
as_function (g ∷ fs) f (inl same) = inl same
as_function (g ∷ fs) f (inr there) = inr (as_function fs f there)

at_first : (f : Function) → DeclaresFirst f.blocks → (c : ℕ) (holder : Block) (i : Inst) → slice_get f.blocks c ≡ Some holder → IsIn i holder.insts → is i.op code.Variable ≡ true → (nth (graph f) c).reached ≡ true
at_first f w zero holder i there among on = first_marked f holder there
at_first f w (suc c) holder i there among on = absurd (none_placed w.others c holder i w.none_other (subst (λ (bs : List Block). slice_get bs (suc c) ≡ Some holder) w.whole there) among on)

pub variables_reached : (bytes : List ℕ) (m : ModuleState) → IsReadFrom bytes m → (f : Function) → IsIn f m.functions → (c : ℕ) (holder : Block) (i : Inst) → slice_get f.blocks c ≡ Some holder → IsIn i holder.insts → is i.op code.Variable ≡ true → (nth (graph f) c).reached ≡ true
variables_reached bytes m read f f_in = at_first f (declares f f_in)
  where
    declares : (f : Function) → IsIn f m.functions → DeclaresFirst f.blocks
    declares = subst (λ (n : ModuleState). (f : Function) → IsIn f n.functions → DeclaresFirst f.blocks) (sym read.made)
        (λ f f_in. declares_first (words bytes) read.form.1.1.1.1.0 f (as_function (functions (words bytes)) f f_in))
