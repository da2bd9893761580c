-- So the text of an accepted module preserves what the module does. It is asked that its words are octets, its overrides words, and that no rule on decorations is broken (`IsLeftOfGlobals`); of its functions and of the invocation nothing is asked.
use Rattle.std.proofs.Common.{◌≡◌, ◌++◌, ℕ, true, false, List, map, Option, Some, refl, sym, subst}
use Rattle.std.proofs.lemmas.Bool.{true_from_ne_false}
use Rattle.spv_words.specs.Words.{words}
use Rattle.spv_module.specs.Inst.{has_type}
use Rattle.spv_module.specs.State.{ModuleState}
use Rattle.spv_module.specs.declared.inst.Inst.{Inst}
use Rattle.spv_module.specs.declared.inst.Function.{Function}
use Rattle.spv_types.specs.Tree.{Tree}
use Rattle.spv_types.specs.Types.{type_tree}
use Rattle.spv_index.specs.Locals.{insts_of}
use Rattle.conformance.specs.Rules.{Options}
use Rattle.module_check.specs.Judged.{IsFine}
use Rattle.module_check.specs.ReadFrom.{IsReadFrom}
use Rattle.traces.specs.Invocations.{Invocation, IsInvocation}
use Rattle.module_semantics.specs.Setting.{setting}
use Rattle.module_semantics.specs.State.{Held, Frame, Conf}
use Rattle.name_alloc.specs.Naming.{name_of}
use Rattle.glsl_ast.specs.Tree.{Text, Decl, TranslationUnit}
use Rattle.glsl_semantics.specs.States.{Thing}
use Rattle.glsl_semantics.specs.Expressions.{Program}
use Rattle.glsl_semantics.specs.Run.{calls_of}
use Rattle.text_rules.specs.Constants.{sizes}
use Rattle.function_text.specs.Functions.{FunctionPlan, written, is_hoisted, function_decl}
use Rattle.unit_rules.specs.Unit.{source_of, IsUnitOf}
use Rattle.write_law.specs.Writes.{IsWithin}
use Rattle.agree_law.specs.Agree.{AreApart}
use Rattle.agree_law.specs.Blocks.{IsOf}
use Rattle.call_law.specs.Known.{IsFunctionOf}
use Rattle.typed_law.specs.Words.{IsSettingOfWords}
use Rattle.typed_law.specs.Conforms.{IsFormed, IsConforming}
use Rattle.typed_law.proofs.OfWords.{words_of_bytes, setting_of_words}
use Rattle.accepted_law.proofs.Accepted.{break_none}
use Rattle.function_law.specs.Texts.{FunctionText, decl_of}
use Rattle.function_law.specs.UnderWay.{IsUnderWay, IsRuled}
use Rattle.claim_law.specs.Apart.{AreOfKeys}
use Rattle.claim_law.specs.Claimed.{IsIn}
use Rattle.grammar_law.specs.Formed.{IsFormedFunction}
use Rattle.grammar_law.specs.Traced.{IsTraced}
use Rattle.text_law.specs.Ends.{HasLabels}
use Rattle.text_law.proofs.Naming.Fine.{each_found}
use Rattle.text_law.proofs.Naming.Functions.{planned_of}
use Rattle.grammar_law.proofs.Formed.Inner.{accepted_inner}
use Rattle.text_law.proofs.Naming.Keys.{S, keys_are}
use Rattle.text_law.proofs.Naming.Once.{a_value}
use Rattle.grammar_law.proofs.Formed.Shaped.{AreGlobals, accepted_shaped}
use Rattle.text_law.proofs.Naming.Unit.{items, ordered, text}
use Rattle.text_law.proofs.Naming.Whole.{stands_reached}
use Rattle.grammar_law.proofs.Unit.Lists.{as_in, as_among, of_contained}
use Rattle.grammar_law.proofs.Unit.Ways.{HaveKinds, F, R, V, in_module}
use Rattle.grammar_law.proofs.Grammar.Inner.{stands_within}
use Rattle.grammar_law.proofs.Grammar.Lives.{lives}
use Rattle.text_law.proofs.Moves.Planned.{planned_edge}
use Rattle.grammar_law.proofs.Formed.Labelled.{label_place}
use Rattle.text_law.proofs.Naming.Firsts.{of_in}
use Rattle.text_law.proofs.Values.EdgesLeft.{edge_left}
use Rattle.text_law.proofs.Steps.Joined.{AreCallsMet, calls_met, insts_met}
use Rattle.use_chains.specs.Slots.{inst_at, IsLive}
use Rattle.function_plan.specs.Phis.{is_gone}
use Rattle.module_semantics.specs.Steps.{is_phi}
use Rattle.grammar_law.proofs.Unit.Kinded.{have_kinds}
use Rattle.text_law.specs.Left.{IsLeftOfGlobals}
use Rattle.text_law.proofs.Outside.Begins.{not_stuck, private_first, outside_first}
use Rattle.text_law.proofs.Outside.Typed.{types_of_text}
use Rattle.text_law.proofs.Outside.Tops.{tops_say}
use Rattle.safe_law.specs.Flags.{IsFlag as IsFlagOf, IsNoFlag}
use Rattle.text_law.proofs.Written.Asked.{AreInstsAsked, AreEdgesAsked, IsLeftOfPlan, one_so, left_of_plan, asked as asked_of}
use Rattle.text_law.proofs.Values.Ends.{left_at_ends}
use Rattle.preservation.specs.Preserves.{PreservesIn}
use Rattle.text_law.proofs.Whole.Accepted.{right, ruled, N, is_one, formed_so, few_so, labels_so, alone_so, apart_so, kept_so}
use Rattle.text_law.proofs.Whole.Left.{P, others, calls_in, StandBefore, HasBlocks, IsLeft}
use Rattle.text_law.proofs.Filled.Things.{things_within}
use Rattle.text_law.proofs.Filled.Phis.{phi_shaped}
use Rattle.text_law.proofs.Whole.Whole.{invocation_preserved}

module _ (bytes : List ℕ) (m : ModuleState) (o : Options) (read : IsReadFrom bytes m) (fine : IsFine m o) (unit : TranslationUnit) (u : IsUnitOf m o unit) where
  -- what stands outside of functions and has a type is a constant or a variable
  pub kinds_in : HaveKinds m.globals
  kinds_in = subst (λ (n : ModuleState). HaveKinds n.globals) (sym read.made) (have_kinds (words bytes) o.entry (break_none bytes m o read fine))

  kinds_so : AreGlobals m.globals
  kinds_so g there some = kinds_in g (as_in m.globals g there) some

  module _ (inv : Invocation) (told : IsInvocation inv) (outer : IsLeftOfGlobals bytes m o) where
    -- its constants and the invocation are of words
    pub of_words : IsSettingOfWords (S m o unit u inv)
    of_words = subst (λ (n : ModuleState). IsSettingOfWords (setting n u.entry o.overrides inv)) (sym read.made) (setting_of_words (words bytes) (words_of_bytes bytes outer.octets) u.entry o.overrides outer.given inv told)

    -- no name of what stands outside of functions is a variable, so none is a flag
    pub flags_outside : (w : Text) (x : Thing) → (P bytes m o read fine unit u inv).things w ≡ Some x → IsWithin (IsNoFlag (name_of u.claimed)) x
    flags_outside w x at = things_within (IsNoFlag (name_of u.claimed)) inv (sizes (source_of m o u.entry)) (items m o unit u inv ++ map function_decl (ordered m o unit u inv)) w x at

    pub keys_so : (p : FunctionPlan) (among : IsIn p u.plans) → AreOfKeys (name_of u.claimed) (N bytes m o read fine unit u inv p among)
    keys_so p among =
        let r = right bytes m o read fine unit u inv in
        keys_are m o unit u inv p among (alone_so bytes m o read fine unit u inv (written p) (is_one bytes m o read fine unit u inv p among)) (each_found m.globals m.globals r.results.each)

    abbrev items_before : List FunctionText → List Decl
    items_before ts = map decl_of ts ++ others bytes m o read fine unit u inv

    -- a planned function, in a call of it
    module _ (k : ℕ) (p : FunctionPlan) (among : IsIn p u.plans) (ts : List FunctionText) (IsLent : ℕ → ℕ → Type 0) (first : List (Frame × ℕ)) (given : ℕ → Option Held) where
      abbrev r : IsConforming m o.entry
      r = right bytes m o read fine unit u inv

      abbrev one : IsFunctionOf (written p) m.functions
      one = is_one bytes m o read fine unit u inv p among

      abbrev apart : AreApart (N bytes m o read fine unit u inv p among)
      apart = apart_so bytes m o read fine unit u inv p among

      abbrev kept : (q j : ℕ) → (N bytes m o read fine unit u inv p among).is_kept q j ≡ true → (N bytes m o read fine unit u inv p among).is_outer q ≡ false
      kept = kept_so bytes m o read fine unit u inv p among

      abbrev rules : IsRuled (S m o unit u inv) (IsTraced (S m o unit u inv))
      rules = ruled bytes m o read fine unit u inv of_words

      abbrev form : IsFormedFunction (written p)
      form = formed_so bytes m o read fine unit u inv (written p) one

      abbrev few : (i : Inst) → IsOf i (insts_of (written p)) → IsFormed i
      few = few_so bytes m o read fine unit u inv (written p) one

      abbrev labels : HasLabels (written p)
      labels = labels_so bytes m o read fine unit u inv (written p) one

      abbrev program : Program
      program = P bytes m o read fine unit u inv

      abbrev Way : Function → Conf → Type 0
      Way g = IsUnderWay (S m o unit u inv) (IsTraced (S m o unit u inv)) IsLent first g given

      abbrev Fn : Function
      Fn = F (S m o unit u inv) o.entry r kinds_in o unit u p among

      abbrev here : IsFunctionOf Fn m.functions
      here = one_so m o unit u inv p among r one (keys_so p among) apart kept rules form few labels program k (items_before ts) flags_outside IsLent first given kinds_in rules.lends

      -- its instructions do what is asked of them, where the functions that it calls stand before it and run as theirs do
      module _ (before : StandBefore bytes m o read fine unit u inv of_words k p ts) where
        calls_so : AreCallsMet bytes m o read fine unit u inv told outer r kinds_in p among rules of_words one form k (calls_of program k (items_before ts)) apart IsLent first given
        calls_so =
            calls_met bytes m o read fine unit u inv told outer r kinds_in p among rules of_words one form k (calls_of program k (items_before ts)) apart IsLent first given
            (λ i there is_call. let w = before.callees i there is_call in record {
              plan = w.0;
              planned = w.1;
              function = w.2;
              other = w.4;
              fine_so = before.fines (text m o unit u inv w.0) w.3;
              run = before.runs (text m o unit u inv w.0) w.3;
            })

        insts_so : AreInstsAsked m o unit u inv p among r one (keys_so p among) apart kept rules form few labels program k (items_before ts) flags_outside IsLent first given
        insts_so b body has = insts_met bytes m o read fine unit u inv told outer r kinds_in p among rules of_words one form k (calls_of program k (items_before ts)) apart IsLent first given calls_so b body has

      -- the types of its phis have shapes
      phis_so : (i : Inst) → IsIn i (insts_of Fn) → is_phi i ≡ true → (t : Tree) × (type_tree m.globals i.ty ≡ Some t)
      phis_so i there on =
          phi_shaped (S m o unit u inv) o.entry r kinds_in Fn (in_module (S m o unit u inv) o.entry r kinds_in o unit u p among)
          (λ j j_in. stands_within bytes m read Fn (of_contained m.functions Fn (in_module (S m o unit u inv) o.entry r kinds_in o unit u p among)) j (as_in (insts_of Fn) j j_in)) i (as_among (insts_of Fn) i there) on

      lives_so : (c place : ℕ) (i : Inst) → inst_at Fn c place ≡ Some i → is_gone ((V (S m o unit u inv) o.entry r kinds_in o unit u p among).form i.result) ≡ false → IsLive Fn (R (S m o unit u inv) o.entry r kinds_in o unit u p among) c place
      lives_so = lives (S m o unit u inv) o.entry r kinds_in o unit u p among

      edges_so : AreEdgesAsked m o unit u inv p among r one (keys_so p among) apart kept rules form few labels program k (items_before ts) flags_outside IsLent first given
      edges_so b t q at from block values taken g goes same =
          planned_edge m o r kinds_in unit u inv p among lives_so rules.lends here (keys_so p among) form (label_place bytes m o read fine (written p) one) phis_so program (calls_of program k (items_before ts)) k apart kept (Way (written p)) (λ c way. way.known.fits) b t q at from block values taken g goes same
          (edge_left bytes m o read fine unit u inv told outer r kinds_in p among lives_so rules.lends here (keys_so p among) form (label_place bytes m o read fine (written p) one) phis_so (calls_of program k (items_before ts)) k apart kept (Way (written p)) (λ c way. way.known.fits) b t)

      plan_left : StandBefore bytes m o read fine unit u inv of_words k p ts → IsLeftOfPlan m o unit u inv p among r one (keys_so p among) apart kept rules form few labels program k (items_before ts) flags_outside IsLent first given
      plan_left before =
          left_of_plan m o unit u inv p among r one (keys_so p among) apart kept rules form few labels program k (items_before ts) flags_outside IsLent first given kinds_in rules.lends (insts_so before) edges_so
          (left_at_ends bytes m o read fine unit u inv told outer r kinds_in p among rules.lends here (calls_of program k (items_before ts)) Way (λ g c way. way.known.fits) (λ g c way. way.known.more.words) rules.fits of_words
          (λ j there. rules.typed Fn here j (of_in (insts_of Fn) j there)))

    -- what is declared for its value has a shape
    shaped : (p : FunctionPlan) (among : IsIn p u.plans) (i : Inst) → IsIn i (insts_of (written p)) → is_hoisted (p.scope.form i.result) ≡ true → (t : Tree) × (type_tree m.globals i.ty ≡ Some t)
    shaped p among i there on =
        let one = is_one bytes m o read fine unit u inv p among in
        let stands = as_among (insts_of (written p)) i there in
        let value = a_value m o unit u inv p among o.entry (right bytes m o read fine unit u inv) one i there on in
        let w = accepted_shaped bytes m o read fine kinds_so (written p) one i stands (true_from_ne_false (has_type i.op) (λ off. value.0 ((accepted_inner bytes m read (written p) one i stands).1 off))) value.1 in
        (w.0, w.1)

    is_left : IsLeft bytes m o read fine unit u inv of_words
    is_left = record {
      goes = λ c at. not_stuck bytes m o read fine unit u inv told outer c at;
      privates = λ p among c at n on. private_first bytes m o read fine unit u inv told outer p among c at n on;
      outside = λ p among x on. outside_first bytes m o read fine unit u inv told outer p among x on;
      types = λ p among. types_of_text bytes m o read fine unit u inv told outer p among;
      says = λ p among calls. tops_say bytes m o read fine unit u inv told outer p among calls (shaped p among);
      IsFlag = λ p. IsFlagOf (name_of u.claimed);
      blocks = λ k p among ts before. blocks_so k p among ts before;
    }
      where
        blocks_so : (k : ℕ) (p : FunctionPlan) (among : IsIn p u.plans) (ts : List FunctionText) → StandBefore bytes m o read fine unit u inv of_words k p ts → HasBlocks bytes m o read fine unit u inv of_words k p among (IsFlagOf (name_of u.claimed)) ts
        blocks_so k p among ts before =
            let r = right bytes m o read fine unit u inv in
            let rules = ruled bytes m o read fine unit u inv of_words in
            let one = is_one bytes m o read fine unit u inv p among in
            let apart = apart_so bytes m o read fine unit u inv p among in
            let kept = kept_so bytes m o read fine unit u inv p among in
            let form = formed_so bytes m o read fine unit u inv (written p) one in
            let few = few_so bytes m o read fine unit u inv (written p) one in
            record {
              asked = λ IsLent first given.
                  asked_of m o unit u inv p among r one (keys_so p among) apart kept rules form few (labels_so bytes m o read fine unit u inv (written p) one) (P bytes m o read fine unit u inv) k (items_before ts) flags_outside IsLent first given (plan_left k p among ts IsLent first given before)
                  (stands_reached (P bytes m o read fine unit u inv) (calls_in bytes m o read fine unit u inv of_words k ts) k (S m o unit u inv) rules (N bytes m o read fine unit u inv p among) apart kept (IsFlagOf (name_of u.claimed)) (source_of m o u.entry) (name_of u.claimed) (written p) form few p (planned_of bytes m o read fine unit u p among) refl IsLent first given);
            }

    -- the law
    pub accepted_preserves : PreservesIn m u.entry o.overrides unit inv
    accepted_preserves = invocation_preserved bytes m o read fine unit u inv of_words is_left
