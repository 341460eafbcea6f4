-- What holds of every case.
use Rattle.std.specs.Prelude.{◌≡◌, ℕ, List, None, Ok}
use Rattle.nb_units.specs.Frames.{AreBytes}
use Rattle.nb_epo.specs.Tags.{order_tag}
use Rattle.nb_endorse.specs.declared.receipt.Receipt.{Receipt}
use Rattle.nb_judge.specs.declared.case.Case.{Case}
use Rattle.nb_judge.specs.declared.case_bytes.TheConstants.{MAX_CASE}
use Rattle.nb_judge.specs.declared.ruling.Ruling.{Ruling}
use Rattle.nb_judge.specs.Layout.{IsCase, case_bytes, case_of}
use Rattle.nb_judge.specs.Ruling.{Rules, RulesByCode, Shows, differs}

-- a case has one ruling
abbrev pub OneRuling : Type 0
OneRuling = (c : Case) (a b : Ruling) → Rules c a → Rules c b → a ≡ b

-- Where the order has its tag under the consumer's key, and the evidence shows a receipt of it, that receipt rules
abbrev pub ShownReceiptRules : Type 0
ShownReceiptRules = (c : Case) (r : Receipt) (ruling : Ruling) → c.order.tag ≡ order_tag c.consumer c.order → Shows c.consumer c.house c.receipt r → differs c r ≡ None
    → Rules c ruling → RulesByCode c r ruling

-- what was spelled of a case is read as that case
abbrev pub CaseReadsBack : Type 0
CaseReadsBack = (c : Case) → IsCase c → case_of (case_bytes c) ≡ Ok c

-- what was read as a case is spelled as those bytes, and is within its limits
abbrev pub CaseSpellsBack : Type 0
CaseSpellsBack = (bytes : List ℕ) (c : Case) → AreBytes bytes → case_of bytes ≡ Ok c → IsCase c × (bytes ≡ case_bytes c)

-- the longest case
abbrev pub CaseLimitIs : Type 0
CaseLimitIs = MAX_CASE ≡ 67109419
