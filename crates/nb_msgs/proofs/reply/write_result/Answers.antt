use Rattle.std.proofs.Common.{◌≡◌, ℕ, ◌++◌, ◌∙◌, List, length, ap, subst, arith, codes}
use Rattle.std.proofs.lemmas.List.{length-append}
use Rattle.nb_units.specs.Fields.{be4, sized}
use Rattle.nb_units.specs.Frames.{frame}
use Rattle.nb_units.specs.declared.frames.TheConstants.{RESULT_REPLY}
use Rattle.nb_seal.specs.Seal.{seal_of}
use Rattle.nb_endorse.specs.declared.receipt.Signed.{Signed}
use Rattle.nb_endorse.specs.Spelling.{signed_bytes}
use Rattle.nb_endorse.specs.Tags.{signed_receipt}
use Rattle.nb_msgs.specs.ReplyBytes.{or_first}
use Rattle.nb_msgs.proofs.Framing.{two_framed}
use Rattle.nb_msgs.proofs.reply.write_result.Goals as goal

pub returns-clause-bytes : goal.returns-clause-bytes
returns-clause-bytes c =
    let keys = c.args.keys.now in
    let out = c.args.out.now.items in
    let sealed : List ℕ → Signed → List ℕ = λ key one. seal_of key (codes "rcpt") (signed_bytes one) in
    let first : List ℕ = sealed c.merchant.result.now c.sign_receipt_with-first.result in
    let second : List ℕ = sealed c.consumer.result.now (or_first c.sign_receipt_with-first.result c.sign_other-other.result) in
    let merchants : List ℕ = sealed keys.first (signed_receipt keys.house c.args.merchant.now) in
    let consumers : List ℕ = sealed keys.second (signed_receipt keys.house c.args.consumer.now) in
    let first_is : first ≡ merchants =
    ap (λ (key : List ℕ). sealed key c.sign_receipt_with-first.result) c.merchant.ensures ∙ ap (sealed keys.first) (c.sign_receipt_with-first.ensures ∙ ap (λ (house : List ℕ). signed_receipt house c.args.merchant.now) c.house-house.ensures) in
    let second_is : second ≡ consumers =
    ap (λ (key : List ℕ). sealed key (or_first c.sign_receipt_with-first.result c.sign_other-other.result)) c.consumer.ensures
    ∙ ap (sealed keys.second) (c.sign_other-other.ensures ∙ ap (λ (house : List ℕ). signed_receipt house c.args.consumer.now) c.house-house.ensures) in
    let long : 167 ≡ length first = omega (arith, ap length c.write_receipt_with.ensures.bytes, length-append c.write_length.new.out.items first, c.write_receipt_with.ensures.long) in
    let other_long : 167 ≡ length second = omega (arith, ap length c.write_other.ensures.bytes, length-append c.write_length-2.new.out.items second, c.write_other.ensures.long) in
    two_framed out c.write_header.new.out.items c.write_length.new.out.items c.write_receipt_with.new.out.items c.write_length-2.new.out.items c.write_other.new.out.items first second RESULT_REPLY 342
    c.write_header.ensures.bytes (subst (λ (n : ℕ). c.write_length.new.out.items ≡ c.write_header.new.out.items ++ be4 n) long c.write_length.ensures.bytes) c.write_receipt_with.ensures.bytes
    (subst (λ (n : ℕ). c.write_length-2.new.out.items ≡ c.write_receipt_with.new.out.items ++ be4 n) other_long c.write_length-2.ensures.bytes) c.write_other.ensures.bytes
    (omega (arith, long, other_long, length-append (sized first) (sized second)))
    ∙ ap (λ (one : List ℕ). out ++ frame (record { kind = RESULT_REPLY; body = sized one ++ sized second })) first_is
    ∙ ap (λ (two : List ℕ). out ++ frame (record { kind = RESULT_REPLY; body = sized merchants ++ sized two })) second_is
