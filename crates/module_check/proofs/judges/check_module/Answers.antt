use Rattle.std.proofs.Common.{◌≡◌, Err, Result, IfErr, rules, subst, sym}
use Rattle.list_law.proofs.Results.{if_ok_both}
use Rattle.std.proofs.lemmas.Result.{IfOk-weaker, IfErr-weaker, on_ok_weaker}
use Rattle.declaration_check.specs.declared.declarations.Entry.{Entry}
use Rattle.profile_rules.specs.Calls.{IsCallOrder, numbers}
use Rattle.profile_rules.specs.Entry.{group_size}
use Rattle.module_check.specs.declared.judges.Conforming.{Conforming}
use Rattle.spv_words.specs.declared.rule.Fault.{Fault}
use Rattle.spv_module.specs.State.{ModuleState}
use Rattle.conformance.specs.Rules.{Options}
use Rattle.module_check.specs.Asked.{asked}
use Rattle.module_check.specs.Judged.{IsFineLater, IsLaterFault, IsFine, IsFault, IsEntry, by_types, by_later}
use Rattle.module_check.proofs.Causes.{declared_by, chosen_by, entry_is_function, typed_by}
use Rattle.module_check.proofs.OfBytes.{own_functions, called_functions}
use Rattle.module_check.proofs.judges.check_module.Goals as goal

pub returns-in_err-check_types-clause-refused : goal.returns-in_err-check_types-clause-refused
returns-in_err-check_types-clause-refused c =
    let m : ModuleState = c.args.module.now in
    let o : Options = asked c.args.options.now in
    let is : c.from_residual-in_err-check_types.result ≡ Err c.in_err-check_types.field-0.0 = search rules in
    let P : Result Conforming Fault → Type 0 = λ r. IfErr r (IsFault m o) in
    subst P (sym is) (by_types (declared_by m o _ c.entry_name.ensures c.in_ok-entry.ensures.passes) c.in_err-check_types.ensures.refused)

pub check_later-requires-clause-own_ids : goal.check_later-requires-clause-own_ids
check_later-requires-clause-own_ids c = own_functions c.args.module.now c.requires.read

pub check_later-requires-clause-callees : goal.check_later-requires-clause-callees
check_later-requires-clause-callees c = called_functions c.args.module.now c.requires.read c.in_ok-check_types.ensures.unbroken

pub check_later-requires-clause-entry : goal.check_later-requires-clause-entry
check_later-requires-clause-entry c =
    let m : ModuleState = c.args.module.now in
    let o : Options = asked c.args.options.now in
    entry_is_function m o c.in_ok-entry.entry.function.0 (declared_by m o _ c.entry_name.ensures c.in_ok-entry.ensures.passes) (chosen_by m o _ c.in_ok-entry.entry.function.0 c.entry_name.ensures c.in_ok-entry.ensures.chosen)

pub returns-clause-passes : goal.returns-clause-passes
returns-clause-passes c =
    let m : ModuleState = c.args.module.now in
    let o : Options = asked c.args.options.now in
    let id = c.in_ok-entry.entry.function.0 in
    on_ok_weaker {P = IsFineLater m o.overrides id} {Q = IsFine m o} c.check_later.result
    (λ later.
    record {
      declared = declared_by m o _ c.entry_name.ensures c.in_ok-entry.ensures.passes;
      typed = typed_by m c.in_ok-check_types.ensures.passes c.in_ok-check_types.ensures.unbroken c.in_ok-check_types.ensures.within;
      entry = id;
      is = chosen_by m o _ id c.entry_name.ensures c.in_ok-entry.ensures.chosen;
      later = later;
    }) c.check_later.ensures.passes

pub returns-clause-refused : goal.returns-clause-refused
returns-clause-refused c =
    let m : ModuleState = c.args.module.now in
    let o : Options = asked c.args.options.now in
    let id = c.in_ok-entry.entry.function.0 in
    IfErr-weaker c.check_later.result (IsLaterFault m o.overrides id) (IsFault m o)
    (λ fault h.
    by_later (declared_by m o _ c.entry_name.ensures c.in_ok-entry.ensures.passes) (typed_by m c.in_ok-check_types.ensures.passes c.in_ok-check_types.ensures.unbroken c.in_ok-check_types.ensures.within) id
    (chosen_by m o _ id c.entry_name.ensures c.in_ok-entry.ensures.chosen) h) c.check_later.ensures.refused

pub returns-clause-entry : goal.returns-clause-entry
returns-clause-entry c =
    let m : ModuleState = c.args.module.now in
    let o : Options = asked c.args.options.now in
    let entry : Entry = c.in_ok-entry.entry in
    let is : IsEntry m o entry.function.0 = chosen_by m o _ entry.function.0 c.entry_name.ensures c.in_ok-entry.ensures.chosen in
    IfOk-weaker c.check_later.result (λ (f : Conforming). f.entry ≡ entry) (λ (f : Conforming). IsEntry m o f.entry.function.0)
    (λ f same. subst (λ (e : Entry). IsEntry m o e.function.0) (sym same) is) c.check_later.ensures.entry

pub returns-clause-size : goal.returns-clause-size
returns-clause-size c =
    let m : ModuleState = c.args.module.now in
    let entry : Entry = c.in_ok-entry.entry in
    IfOk-weaker c.check_later.result (λ (f : Conforming). f.entry ≡ entry) (λ (f : Conforming). f.entry.size.items ≡ group_size m f.entry.function.0)
    (λ f same. subst (λ (e : Entry). e.size.items ≡ group_size m e.function.0) (sym same) c.in_ok-entry.ensures.size) c.check_later.ensures.entry

pub returns-clause-order : goal.returns-clause-order
returns-clause-order c =
    let m : ModuleState = c.args.module.now in
    let entry : Entry = c.in_ok-entry.entry in
    if_ok_both (λ (f : Conforming). f.entry ≡ entry) (λ (f : Conforming). IsCallOrder m.functions entry.function.0 (numbers f.order.items))
    (λ (f : Conforming). IsCallOrder m.functions f.entry.function.0 (numbers f.order.items)) c.check_later.result
    (λ f same order. subst (λ (e : Entry). IsCallOrder m.functions e.function.0 (numbers f.order.items)) (sym same) order) c.check_later.ensures.entry c.check_later.ensures.order
