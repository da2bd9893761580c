-- Where the rule on the form of a module (P4) is not broken, each block is formed: phis, instructions that are none, and one terminator.
use Rattle.std.proofs.Common.{◌≡◌, ◌<◌, ◌+◌, ◌==◌, ◌&&◌, ℕ, zero, suc, Bool, true, false, List, [], ◌∷◌, length, map, drop, Option, Some, None, inl, inr, refl, sym, ap, subst, ◌∙◌, if◌then◌else◌, arith}
use Rattle.std.specs.Prelude.{slice_get, unwrap_or}
use Rattle.std.specs.Option.{option_map_or}
use Rattle.std.proofs.lemmas.Bool.{true_from_ne_false}
use Rattle.spv_words.specs.Words.{insts, nth_inst}
use Rattle.spv_words.specs.declared.rule.Rule.TheVariants.{P4}
use Rattle.spv_words.specs.declared.words.Inst1.{Inst1}
use Rattle.spv_ops.specs.Opcode.{is, number, op_of}
use Rattle.spv_ops.specs.Shape.{shape}
use Rattle.spv_ops.specs.Groups.{is_terminator}
use Rattle.spv_ops.specs.declared.opcode.Op.{Op}
use Rattle.spv_ops.specs.declared.opcode.Op.TheVariants as op
use Rattle.spv_module.specs.declared.kind.Kind.{Kind}
use Rattle.spv_module.specs.declared.kind.Kind.TheVariants.{Debug, Function as Opening_of, Parameter, End, Label, Phi, Merge, Terminator, Other}
use Rattle.spv_module.specs.declared.inst.Inst.{Inst}
use Rattle.spv_module.specs.declared.inst.Block.{Block}
use Rattle.spv_module.specs.declared.inst.Function.{Function}
use Rattle.spv_module.specs.Inst.{inst_of, word, known}
use Rattle.spv_module.specs.Kinds.{kind_of, kind_of_op, kind_of_opcode, kinds, is_import}
use Rattle.spv_module.specs.Form.{nth_kind, is_function, is_block_end, is_terminated, is_body, is_block}
use Rattle.spv_module.specs.Broken.{IsUnbroken}
use Rattle.spv_module.specs.Lists.{with_inst, block_insts, block, with_block, blocks, function, with_function, functions_from, functions}
use Rattle.module_semantics.specs.Steps.{is_phi}
use Rattle.list_law.proofs.Lists.{map_length}
use Rattle.call_law.specs.Known.{IsFunctionOf}
use Rattle.grammar_law.specs.Formed.{IsEnded, IsFormedBlock, IsFormedFunction}

-- what kinds tell of opcodes
abbrev is_phi_kind : Kind → Bool
is_phi_kind Phi = true
is_phi_kind _ = false

abbrev is_end_kind : Kind → Bool
is_end_kind Terminator = true
is_end_kind _ = false

phi_op : (o : Op) → is o op.Phi ≡ is_phi_kind (kind_of_op o)
unfolding kind_of_op number shape
phi_op op.Phi = refl
phi_op o = refl

end_op : (o : Op) → is_terminator o ≡ is_end_kind (kind_of_op o)
unfolding kind_of_op shape
end_op op.Branch = refl
end_op o = refl

phi_by : (o : Option Op) → is (unwrap_or o op.Nop) op.Phi ≡ is_phi_kind (option_map_or kind_of_op o Other)
unfolding number
phi_by None = refl
phi_by (Some o) = phi_op o

end_by : (o : Option Op) → is_terminator (unwrap_or o op.Nop) ≡ is_end_kind (option_map_or kind_of_op o Other)
end_by None = refl
end_by (Some o) = end_op o

-- what stands behind each instruction of a kind passes a test
abbrev pub AreGood : Kind → (List Kind → Bool) → List Kind → Type 0
AreGood at test [] = Unit {0}
AreGood at test (k ∷ ks) = (k ≡ at → test ks ≡ true) × AreGood at test ks

pub good : (at : Kind) (test : List Kind → Bool) (ks : List Kind) → ((k : ℕ) → k < length ks → nth_kind ks k ≡ at → test (drop (k + 1) ks) ≡ false → ⊥) → AreGood at test ks
good at test [] far = tt
good at test (x ∷ ks) far = (
  λ e. true_from_ne_false (test ks) (λ off. far 0 (let less : 0 < suc (length ks) = omega arith in less) e off),
  good at test ks (λ k less e off.
      let next : suc k + 1 ≡ suc (k + 1) = omega arith in
      far (suc k) (let more : suc k < suc (length ks) = omega (arith, less) in more) e (subst (λ n. test (drop n (x ∷ ks)) ≡ false) (sym next) off)),
)

abbrev AllFormed : List Block → Type 0
AllFormed [] = Unit {0}
AllFormed (b ∷ bs) = IsFormedBlock b.insts × AllFormed bs

abbrev AreFormed : List Function → Type 0
AreFormed [] = Unit {0}
AreFormed (f ∷ fs) = IsFormedFunction f × AreFormed fs

nth_formed : (bs : List Block) → AllFormed bs → (k : ℕ) (b : Block) → slice_get bs k ≡ Some b → IsFormedBlock b.insts
nth_formed [] all k b e = cc
nth_formed (x ∷ bs) all zero b e = let same : x ≡ b = cc in subst (λ (y : Block). IsFormedBlock y.insts) same all.0
nth_formed (x ∷ bs) all (suc k) b e = nth_formed bs all.1 k b e

formed_of : (fs : List Function) → AreFormed fs → (f : Function) → IsFunctionOf f fs → IsFormedFunction f
formed_of [] all f one = absurd one
formed_of (g ∷ fs) all f (inl same) = subst IsFormedFunction same all.0
formed_of (g ∷ fs) all f (inr one) = formed_of fs all.1 f one

-- one more before the end
longer : (i : Inst) (xs : List Inst) → is_phi i ≡ false → is_terminator i.op ≡ false → IsEnded xs → IsEnded (i ∷ xs)
longer i xs phi end e = record { plain = i ∷ e.plain; are_plain = (phi, end, e.are_plain); last = e.last; ends = e.ends; whole = ap (λ l. i ∷ l) e.whole }

module _ (ws : List ℕ) where
  abbrev K : List Inst1 → List Kind
  K is = map (kind_of ws) is

  kind_tells : (i : Inst1) (k : Kind) → kind_of ws i ≡ k → (k ≡ Debug → ⊥) → (is_phi (inst_of ws i) ≡ is_phi_kind k) × (is_terminator (inst_of ws i).op ≡ is_end_kind k)
  unfolding kind_of_opcode known
  kind_tells i k e some = by_test ((i.opcode == number op.ExtInst) && is_import ws (word ws i 3)) e
    where
      by_test : (b : Bool) → (if b then Debug else kind_of_opcode i.opcode) ≡ k → (is_phi (inst_of ws i) ≡ is_phi_kind k) × (is_terminator (inst_of ws i).op ≡ is_end_kind k)
      by_test true e = absurd (some (sym e))
      by_test false e = (phi_by (op_of i.opcode) ∙ ap is_phi_kind e, end_by (op_of i.opcode) ∙ ap is_end_kind e)

  -- behind a terminator nothing is left of the block
  end_empty : (is : List Inst1) → is_block_end (K is) ≡ true → block_insts ws is ≡ []
  end_empty [] e = refl
  end_empty (i ∷ is) e = by_kind (kind_of ws i) e (end_empty is)
    where
      by_kind : (k : Kind) → is_block_end (k ∷ K is) ≡ true → (is_block_end (K is) ≡ true → block_insts ws is ≡ []) → with_inst k (inst_of ws i) (block_insts ws is) ≡ []
      by_kind Debug e later = later e
      by_kind Label e later = refl
      by_kind End e later = refl
      by_kind k e later = cc

  ended_here : (i : Inst1) (is : List Inst1) → kind_of ws i ≡ Terminator → is_block_end (K is) ≡ true → IsEnded (inst_of ws i ∷ block_insts ws is)
  ended_here i is kind e = record { plain = []; are_plain = tt; last = inst_of ws i; ends = (kind_tells i Terminator kind (λ d. cc)).1; whole = ap (λ l. inst_of ws i ∷ l) (end_empty is e) }

  terminated_from : (is : List Inst1) → is_terminated (K is) ≡ true → IsEnded (block_insts ws is)
  terminated_from [] e = cc
  terminated_from (i ∷ is) e = by_kind (kind_of ws i) refl e
    where
      by_kind : (k : Kind) → kind_of ws i ≡ k → is_terminated (k ∷ K is) ≡ true → IsEnded (with_inst k (inst_of ws i) (block_insts ws is))
      by_kind Terminator kind e = ended_here i is kind e
      by_kind k kind e = cc

  body_from : (is : List Inst1) → is_body (K is) ≡ true → IsEnded (block_insts ws is)
  body_from [] e = cc
  body_from (i ∷ is) e = by_kind (kind_of ws i) refl e (body_from is)
    where
      more : (k : Kind) → kind_of ws i ≡ k → (k ≡ Debug → ⊥) → is_phi_kind k ≡ false → is_end_kind k ≡ false → IsEnded (block_insts ws is) → IsEnded (inst_of ws i ∷ block_insts ws is)
      more k kind some phi end rest = let tells = kind_tells i k kind some in longer (inst_of ws i) (block_insts ws is) (tells.0 ∙ phi) (tells.1 ∙ end) rest

      by_kind : (k : Kind) → kind_of ws i ≡ k → is_body (k ∷ K is) ≡ true → (is_body (K is) ≡ true → IsEnded (block_insts ws is)) → IsEnded (with_inst k (inst_of ws i) (block_insts ws is))
      by_kind Phi kind e later = cc
      by_kind Merge kind e later = more Merge kind (λ d. cc) refl refl (terminated_from is e)
      by_kind Terminator kind e later = ended_here i is kind e
      by_kind Label kind e later = cc
      by_kind End kind e later = cc
      by_kind Opening_of kind e later = cc
      by_kind Debug kind e later = later e
      by_kind k kind e later = more k kind (λ d. cc) refl refl (later e)

  only_ended : (xs : List Inst) → IsEnded xs → IsFormedBlock xs
  only_ended xs e = record { heads = []; are_phis = tt; behind = xs; whole = refl; ended = e }

  block_from : (is : List Inst1) → is_block (K is) ≡ true → IsFormedBlock (block_insts ws is)
  block_from [] e = cc
  block_from (i ∷ is) e = by_kind (kind_of ws i) refl e (block_from is) (body_from (i ∷ is))
    where
      by_kind : (k : Kind) → kind_of ws i ≡ k → is_block (k ∷ K is) ≡ true → (is_block (K is) ≡ true → IsFormedBlock (block_insts ws is)) → (is_body (kind_of ws i ∷ K is) ≡ true → IsEnded (with_inst (kind_of ws i) (inst_of ws i) (block_insts ws is))) → IsFormedBlock (with_inst k (inst_of ws i) (block_insts ws is))
      by_kind Debug kind e later body = later e
      by_kind Phi kind e later body =
          let rest = later e in
          record { heads = inst_of ws i ∷ rest.heads; are_phis = ((kind_tells i Phi kind (λ d. cc)).0, rest.are_phis); behind = rest.behind; whole = ap (λ l. inst_of ws i ∷ l) rest.whole; ended = rest.ended }
      by_kind k kind e later body = only_ended _ (subst (λ q. IsEnded (with_inst q (inst_of ws i) (block_insts ws is))) kind (body (ap (λ q. is_body (q ∷ K is)) kind ∙ e)))

  blocks_from : (is : List Inst1) → AreGood Label is_block (K is) → AllFormed (blocks ws is)
  blocks_from [] right = tt
  blocks_from (i ∷ is) right = by_kind (kind_of ws i) right.0 (blocks_from is right.1)
    where
      by_kind : (k : Kind) → (k ≡ Label → is_block (K is) ≡ true) → AllFormed (blocks ws is) → AllFormed (with_block k (block ws i is) (blocks ws is))
      by_kind Label here rest = (block_from is (here refl), rest)
      by_kind End here rest = tt
      by_kind k here rest = rest

  -- a function has a block
  first_from : (is : List Inst1) → is_function (K is) ≡ true → (b : Block) × (slice_get (blocks ws is) 0 ≡ Some b)
  first_from [] e = cc
  first_from (i ∷ is) e = by_kind (kind_of ws i) e (first_from is)
    where
      by_kind : (k : Kind) → is_function (k ∷ K is) ≡ true → (is_function (K is) ≡ true → (b : Block) × (slice_get (blocks ws is) 0 ≡ Some b)) → (b : Block) × (slice_get (with_block k (block ws i is) (blocks ws is)) 0 ≡ Some b)
      by_kind Debug e later = later e
      by_kind Parameter e later = later e
      by_kind Label e later = (block ws i is, refl)
      by_kind k e later = cc

  functions_formed : (is : List Inst1) → AreGood Label is_block (K is) → AreGood Opening_of is_function (K is) → AreFormed (functions_from ws is)
  functions_formed [] right opens = tt
  functions_formed (i ∷ is) right opens = by_kind (kind_of ws i) opens.0 (functions_formed is right.1 opens.1)
    where
      by_kind : (k : Kind) → (k ≡ Opening_of → is_function (K is) ≡ true) → AreFormed (functions_from ws is) → AreFormed (with_function k (function ws i is) (functions_from ws is))
      by_kind Opening_of here rest =
          let first = first_from is (here refl) in
          (record { first = first.0; there = first.1; blocks = nth_formed (blocks ws is) (blocks_from is right.1) }, rest)
      by_kind k here rest = rest

  pub inside : (k : ℕ) → k < length (kinds ws) → k < length (insts ws)
  inside k less = subst (λ n. k < n) (map_length (kind_of ws) (insts ws)) less

  -- the functions of a module
  pub formed : IsUnbroken ws P4 → (f : Function) → IsFunctionOf f (functions ws) → IsFormedFunction f
  formed form f one =
      formed_of (functions ws)
      (functions_formed (insts ws)
      (good Label is_block (kinds ws) (λ k less e off. form (nth_inst ws k).start (k, inside k less, refl, inr (inr (e, off)))))
      (good Opening_of is_function (kinds ws) (λ k less e off. form (nth_inst ws k).start (k, inside k less, refl, inr (inl (e, off)))))) f one
