-- What stands where in a formed block: its phis first, its one terminator last.
use Rattle.std.proofs.Common.{◌≡◌, ◌+◌, ℕ, suc, Bool, true, false, List, [], ◌∷◌, ◌++◌, length, drop, cond, find, Option, Some, None, inl, inr, refl, sym, ap, subst, ◌∙◌, if◌then◌else◌, arith}
use Rattle.std.specs.Prelude.{◌⊎◌, slice_get}
use Rattle.std.specs.List.{prefix_len}
use Rattle.std.proofs.lemmas.List.Folds.{length-prefix_len}
use Rattle.spv_ops.specs.Opcode.{is, number}
use Rattle.spv_ops.specs.Groups.{is_terminator}
use Rattle.spv_ops.specs.declared.Op.{Op}
use Rattle.spv_ops.specs.declared.Op.TheVariants as code
use Rattle.spv_module.specs.declared.inst.Inst.{Inst}
use Rattle.spv_module.specs.declared.inst.Block.{Block}
use Rattle.spv_module.specs.declared.inst.Function.{Function}
use Rattle.structure_rules.specs.Graph.{terminator, nth, graph}
use Rattle.module_semantics.specs.Steps.{is_phi, behind_phis}
use Rattle.list_law.proofs.Tests.{no_flip}
use Rattle.agree_law.specs.Blocks.{IsOf}
use Rattle.agree_law.specs.Points.{Body}
use Rattle.function_law.specs.Edges.{HaveNoPhi, ArePhisFirst}
use Rattle.grammar_law.specs.Formed.{ArePhis, ArePlain, IsEnded, IsFormedBlock, IsFormedFunction}

phi_no_end : (o : Op) → is o code.Phi ≡ true → is_terminator o ≡ false
unfolding number
phi_no_end code.Phi on = refl
phi_no_end o on = cc

end_no_phi : (o : Op) → is_terminator o ≡ true → is o code.Phi ≡ false
unfolding number
end_no_phi code.Branch on = refl
end_no_phi code.BranchConditional on = refl
end_no_phi code.Switch on = refl
end_no_phi code.Return on = refl
end_no_phi code.ReturnValue on = refl
end_no_phi code.Unreachable on = refl
end_no_phi o on = cc

-- phis stand first
plain_first : (is : List Inst) (last : Inst) → ArePlain is → is_phi last ≡ false → prefix_len is_phi (is ++ last ∷ []) ≡ 0
plain_first [] last plain off = ap (λ (t : Bool). cond t (1 + prefix_len is_phi []) 0) off
plain_first (i ∷ is) last plain off = ap (λ (t : Bool). cond t (1 + prefix_len is_phi (is ++ last ∷ [])) 0) plain.0

ended_first : (xs : List Inst) → IsEnded xs → prefix_len is_phi xs ≡ 0
ended_first xs e = ap (prefix_len is_phi) e.whole ∙ plain_first e.plain e.last e.are_plain (end_no_phi e.last.op e.ends)

heads_first : (hs xs : List Inst) → ArePhis hs → IsEnded xs → prefix_len is_phi (hs ++ xs) ≡ length hs
heads_first [] xs are e = ended_first xs e
heads_first (h ∷ hs) xs are e =
    ap (λ (t : Bool). cond t (1 + prefix_len is_phi (hs ++ xs)) 0) are.0
    ∙ (ap (λ n. 1 + n) (heads_first hs xs are.1 e) ∙ (let next : 1 + length hs ≡ suc (length hs) = omega arith in next))

drop_heads : (hs xs : List Inst) → drop (length hs) (hs ++ xs) ≡ xs
drop_heads [] xs = refl
drop_heads (h ∷ hs) xs = drop_heads hs xs

pub behind_is : (b : Block) (f : IsFormedBlock b.insts) → behind_phis b ≡ f.behind
behind_is b f =
    ap (λ n. drop n b.insts) (length-prefix_len is_phi b.insts ∙ (ap (prefix_len is_phi) f.whole ∙ heads_first f.heads f.behind f.are_phis f.ended))
    ∙ (ap (drop (length f.heads)) f.whole ∙ drop_heads f.heads f.behind)

no_phi : (is : List Inst) (last : Inst) → ArePlain is → is_phi last ≡ false → HaveNoPhi (is ++ last ∷ [])
no_phi [] last plain off = (off, tt)
no_phi (i ∷ is) last plain off = (plain.0, no_phi is last plain.2 off)

plain_behind : (is : List Inst) (last : Inst) → ArePlain is → is_phi last ≡ false → ArePhisFirst (is ++ last ∷ [])
plain_behind [] last plain off = inr (off, tt)
plain_behind (i ∷ is) last plain off = inr (plain.0, no_phi is last plain.2 off)

heads_behind : (hs xs : List Inst) → ArePhis hs → IsEnded xs → ArePhisFirst (hs ++ xs)
heads_behind [] xs are e = subst ArePhisFirst (sym e.whole) (plain_behind e.plain e.last e.are_plain (end_no_phi e.last.op e.ends))
heads_behind (h ∷ hs) xs are e = inl (are.0, heads_behind hs xs are.1 e)

pub phis_come_first : (xs : List Inst) → IsFormedBlock xs → ArePhisFirst xs
phis_come_first xs f = subst ArePhisFirst (sym f.whole) (heads_behind f.heads f.behind f.are_phis f.ended)

-- the terminator is the last instruction, and there is no other
abbrev E : Inst → Bool
E i = is_terminator i.op

found_behind : (x : Inst) (xs : List Inst) → E x ≡ false → find E (x ∷ xs) ≡ find E xs
found_behind x xs off = ap (λ (t : Bool). if t then Some x else find E xs) off

heads_skipped : (hs xs : List Inst) → ArePhis hs → find E (hs ++ xs) ≡ find E xs
heads_skipped [] xs are = refl
heads_skipped (h ∷ hs) xs are = found_behind h (hs ++ xs) (phi_no_end h.op are.0) ∙ heads_skipped hs xs are.1

plain_skipped : (is xs : List Inst) → ArePlain is → find E (is ++ xs) ≡ find E xs
plain_skipped [] xs plain = refl
plain_skipped (i ∷ is) xs plain = found_behind i (is ++ xs) plain.1 ∙ plain_skipped is xs plain.2

pub end_is : (b : Block) (f : IsFormedBlock b.insts) → terminator b ≡ Some f.ended.last
end_is b f =
    ap (find E) f.whole
    ∙ (heads_skipped f.heads f.behind f.are_phis
    ∙ (ap (find E) f.ended.whole
    ∙ (plain_skipped f.ended.plain (f.ended.last ∷ []) f.ended.are_plain
    ∙ ap (λ (t : Bool). if t then Some f.ended.last else find E []) f.ended.ends)))

of_either : (j : Inst) (xs ys : List Inst) → IsOf j (xs ++ ys) → IsOf j xs ⊎ IsOf j ys
of_either j [] ys is = inr is
of_either j (x ∷ xs) ys (inl same) = inl (inl same)
of_either j (x ∷ xs) ys (inr is) = elim (of_either j xs ys is) [ inl left ↦ inl (inr left) | inr right ↦ inr right ]

no_head : (hs : List Inst) (i : Inst) → ArePhis hs → IsOf i hs → E i ≡ false
no_head [] i are is = absurd is
no_head (h ∷ hs) i are (inl same) = subst (λ (x : Inst). E x ≡ false) same (phi_no_end h.op are.0)
no_head (h ∷ hs) i are (inr is) = no_head hs i are.1 is

no_plain : (js : List Inst) (i : Inst) → ArePlain js → IsOf i js → E i ≡ false
no_plain [] i plain is = absurd is
no_plain (j ∷ js) i plain (inl same) = subst (λ (x : Inst). E x ≡ false) same plain.1
no_plain (j ∷ js) i plain (inr is) = no_plain js i plain.2 is

pub only_end : (xs : List Inst) (f : IsFormedBlock xs) (i : Inst) → IsOf i xs → is_terminator i.op ≡ true → f.ended.last ≡ i
only_end xs f i is on = elim (of_either i f.heads f.behind (subst (IsOf i) f.whole is)) [
  | inl head ↦ no_flip (E i) on (no_head f.heads i f.are_phis head)
  | inr behind ↦ elim (of_either i f.ended.plain (f.ended.last ∷ []) (subst (IsOf i) f.ended.whole behind)) [
    | inl plain ↦ no_flip (E i) on (no_plain f.ended.plain i f.ended.are_plain plain)
    | inr last ↦ elim last [ inl same ↦ same | inr none ↦ absurd none ]
  ]
]

-- so a block of a function is instructions between its phis and its terminator, as the laws on blocks ask
abbrev pub body_of : (f : Function) (k : ℕ) (b : Block) → slice_get f.blocks k ≡ Some b → IsFormedBlock b.insts → Body f k
body_of f k b there formed = record { block = b; there = there; insts = formed.ended.plain; last = formed.ended.last; whole = behind_is b formed ∙ formed.ended.whole }

-- the bodies of the blocks that are reached, and of no others
abbrev pub body_if : (f : Function) (k : ℕ) → IsFormedFunction f → Bool → (o : Option Block) → slice_get f.blocks k ≡ o → Option (Body f k)
body_if f k formed true (Some b) there = Some (body_of f k b there (formed.blocks k b there))
body_if f k formed _ _ there = None

abbrev pub reached_body : (f : Function) → IsFormedFunction f → (k : ℕ) → Option (Body f k)
reached_body f formed k = body_if f k formed (nth (graph f) k).reached (slice_get f.blocks k) refl

-- what is asked of a body is asked of a reached block alone
pub reached_only : (f : Function) (formed : IsFormedFunction f) (k : ℕ) (o : Body f k) → reached_body f formed k ≡ Some o → (nth (graph f) k).reached ≡ true
reached_only f formed k o is = by_test (nth (graph f) k).reached (slice_get f.blocks k) refl is
  where
    by_test : (t : Bool) (q : Option Block) (there : slice_get f.blocks k ≡ q) → body_if f k formed t q there ≡ Some o → t ≡ true
    by_test true q there e = refl
    by_test false (Some b) there e = cc
    by_test false None there e = cc

pub has_body : (f : Function) (formed : IsFormedFunction f) (k : ℕ) (b : Block) → slice_get f.blocks k ≡ Some b → (nth (graph f) k).reached ≡ true → (o : Body f k) × (reached_body f formed k ≡ Some o) × (o.block ≡ b)
has_body f formed k b there on = by_test (nth (graph f) k).reached (slice_get f.blocks k) refl on there
  where
    by_test : (t : Bool) (q : Option Block) (at : slice_get f.blocks k ≡ q) → t ≡ true → q ≡ Some b → (o : Body f k) × (body_if f k formed t q at ≡ Some o) × (o.block ≡ b)
    by_test true (Some c) at on e = (body_of f k c at (formed.blocks k c at), refl, (let same : c ≡ b = cc in same))
    by_test true None at on e = cc
    by_test false q at on e = cc
