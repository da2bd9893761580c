-- The type of a constant that functions of an accepted module's text mention stands in the text.
use Rattle.std.proofs.Common.{◌≡◌, ℕ, true, List, Option, Some, inl, inr, refl, sym, ap, ◌∙◌, subst}
use Rattle.std.proofs.lemmas.Bool.{or_right}
use Rattle.std.proofs.lemmas.Option.{same_Some}
use Rattle.spv_decor.specs.Decorations.{local_insts}
use Rattle.spv_module.specs.Held.{global}
use Rattle.spv_module.specs.State.{ModuleState}
use Rattle.spv_module.specs.declared.inst.Inst.{Inst}
use Rattle.spv_module.specs.declared.tree.Elem.TheVariants as elem
use Rattle.spv_types.specs.Tree as plain
use Rattle.spv_types.specs.Tree.{Tree, ValueTree}
use Rattle.spv_types.specs.Types.{type_tree}
use Rattle.spv_types.specs.Leaves.{IsSized}
use Rattle.conformance.specs.Rules.{Options}
use Rattle.module_check.specs.Judged.{IsFine}
use Rattle.module_check.specs.ReadFrom.{IsReadFrom}
use Rattle.traces.specs.Invocations.{Invocation, IsInvocation}
use Rattle.module_semantics.specs.Setting.{Setting}
use Rattle.name_alloc.specs.declared.claims.Key.{Key}
use Rattle.glsl_ast.specs.Tree.{Text, Decl, TranslationUnit}
use Rattle.text_rules.specs.declared.readings.Reading.{Reading}
use Rattle.text_rules.specs.declared.readings.Reading.TheVariants.{Plain, Named, GroupSize, GroupSizePart}
use Rattle.text_rules.specs.Constants.{Source, is_scalar, is_constant, reading}
use Rattle.text_rules.specs.Printed.{Reached, has_struct, is_needed, is_declared_constant, is_written_variable}
use Rattle.function_text.specs.Functions.{FunctionPlan}
use Rattle.unit_rules.specs.Unit.{source_of, IsUnitOf}
use Rattle.plan_law.specs.InOrder.{IsAmong}
use Rattle.plan_law.proofs.Order.{among_left as inst_left}
use Rattle.fits_law.proofs.Steps.{named}
use Rattle.typed_law.proofs.Lists.{found_in}
use Rattle.typed_law.proofs.Used.{global_found, used_sized}
use Rattle.global_law.specs.Sources.{chosen}
use Rattle.global_law.proofs.Global.Plain.{plain_is}
use Rattle.global_law.specs.Items.{AreAsked}
use Rattle.global_law.proofs.Constant.Valued.{IsValued}
use Rattle.global_law.proofs.Constant.Within.{constant_no_variable, constant_within}
use Rattle.global_law.proofs.Constant.Written.{IsHeld, own_type, held_by}
use Rattle.global_law.proofs.Constant.GroupSizes.{size_has, part_is_of}
use Rattle.global_law.proofs.Constant.Reading.{size_reading, part_reading}
use Rattle.global_law.proofs.Constant.Standing.{declared_by}
use Rattle.global_law.proofs.Constant.Constants.{AreFunctions, mentioned_needed}
use Rattle.global_law.proofs.Constant.Types.{zero_declared}
use Rattle.claim_law.specs.Claimed.{IsIn}
use Rattle.text_law.proofs.Naming.Keys.{S, found as names_found, R}
use Rattle.text_law.specs.Left.{IsLeftOfGlobals}
use Rattle.text_law.proofs.Outside.Constants.{IsMentioned, it as valued_at, constant as constant_at}
use Rattle.text_law.proofs.Outside.Text.{fs as function_items, are_functions, asked as asked_of}
use Rattle.text_law.proofs.Texts.ValueTypes.{IsTextType}

module _ (bytes : List ℕ) (m : ModuleState) (o : Options) (read : IsReadFrom bytes m) (fine : IsFine m o) (unit : TranslationUnit) (u : IsUnitOf m o unit) (inv : Invocation) (told : IsInvocation inv) (left : IsLeftOfGlobals bytes m o) (p : FunctionPlan) (planned : IsIn p u.plans) where
  abbrev s : Setting
  s = S m o unit u inv

  abbrev found : Key → Option Text
  found = names_found m o unit u inv

  abbrev r : Reached
  r = R m o unit u inv

  abbrev src : Source
  src = source_of m o u.entry

  abbrev Gs : List Inst
  Gs = m.globals

  abbrev fs : List Decl
  fs = function_items bytes m o read fine unit u inv told left

  abbrev asked : AreAsked s o.entry o.overrides found r
  asked = asked_of bytes m o read fine unit u inv told left

  functions : AreFunctions fs
  functions = are_functions bytes m o read fine unit u inv told left

  abbrev IsText : Tree → Type 0
  IsText = IsTextType bytes m o read fine unit u inv told left p planned

  scalar_text : (t : Tree) → is_scalar t ≡ true → IsText t
  scalar_text plain.boolean on = (tt, tt)
  scalar_text plain.int on = (tt, tt)
  scalar_text plain.uint on = (tt, tt)
  scalar_text (plain.vector e n) on = cc
  scalar_text (plain.array t l) on = cc
  scalar_text (plain.runtime t) on = cc
  scalar_text (plain.struct k ts) on = cc

  module _ (n : ℕ) (v : ValueTree) (has : s.constants n ≡ Some v) (mentioned : IsMentioned bytes m o read fine unit u inv told left n) where
    abbrev it : IsValued s (chosen s o.overrides) asked.have asked.right.results asked.right.rising n v
    it = valued_at bytes m o read fine unit u inv told left p n v has mentioned

    among : IsAmong it.inst Gs
    among = found_in Gs n it.inst it.there

    itself : it.inst.result ≡ n
    itself = named Gs n it.inst it.there

    own_has : s.constants it.inst.result ≡ Some v
    own_has = ap s.constants itself ∙ has

    own : global Gs it.inst.result ≡ Some it.inst
    own = global_found m o.entry asked.right it.inst among

    constant : is_constant it.inst ≡ true
    constant = constant_at bytes m o read fine unit u inv told left p n v has mentioned

    same_type : (t : Tree) → type_tree Gs it.inst.ty ≡ Some t → t ≡ it.shape
    same_type t e = same_Some t it.shape (sym e ∙ it.typed_as)

    by_reading : (q : Reading) → reading src it.inst ≡ q → IsText it.shape
    by_reading Plain reads = let c = plain_is s o.overrides it.inst reads in scalar_text it.shape (subst (λ (t : Tree). is_scalar t ≡ true) (same_type c.shape c.typed_as) c.scalar)
    by_reading GroupSize reads =
        let c = size_has s o.overrides asked.have asked.right.results asked.right.rising asked.spec_ids asked.sizes it.inst v among own (size_reading src it.inst reads) own_has in
        subst IsText (same_type (plain.vector elem.Uint 3) c.0) (inr (inl refl), tt)
    by_reading (GroupSizePart axis) reads =
        let c = part_is_of s o.overrides asked.have asked.right.results asked.right.rising asked.spec_ids asked.sizes it.inst axis v own own_has (part_reading src it.inst axis reads) in
        subst IsText (same_type plain.uint c.typed_as) (tt, tt)
    by_reading Named reads =
        let needed : is_needed src r it.inst.result ≡ true = subst (λ (k : ℕ). is_needed src r k ≡ true) (sym itself) (mentioned_needed s o.entry o.overrides found r asked fs functions n mentioned) in
        let declared : is_declared_constant src r it.inst ≡ true = declared_by s o.entry o.overrides found r asked it.inst constant reads needed in
        let sized : IsSized it.shape = used_sized m o.entry asked.right it.inst (inst_left it.inst Gs (local_insts m) among) (constant_no_variable it.inst.op constant) it.shape it.typed_as in
        let held : (j : ℕ) → has_struct j it.shape ≡ true → IsHeld s o.entry asked.right o.overrides r j =
        λ j on. held_by s o.entry asked.right o.overrides r it.inst j among (or_right (is_written_variable r it.inst) (is_declared_constant src r it.inst) declared) (own_type s o.entry asked.right o.overrides r it.inst.ty j it.shape it.typed_as on) in (
          zero_declared s o.entry o.overrides found r asked fs functions it.inst.at it.shape (constant_within m o.entry asked.right it.inst it.shape among constant it.typed_as) sized held,
          asked.members it.inst it.shape among declared it.typed_as,
        )

    -- The law.
    pub constant_text : (t : Tree) → type_tree Gs it.inst.ty ≡ Some t → IsText t
    constant_text t shape = subst IsText (sym (same_type t shape)) (by_reading (reading src it.inst) refl)
