-- What a complaint says, and of which word.
use Rattle.std.specs.Prelude.{ℕ, List, Some, None, codes, Option}
use Rattle.words.specs.declared.Span.{Span}
use Rattle.records.specs.declared.complaints.Complaint.{Complaint}
use Rattle.records.specs.declared.complaints.Complaint.TheVariants.{WordMissing, NoNumber, MaskAbove255, UnknownKind, UnknownForm, UnknownCall, WordTooMany, EdgeWithoutGraph, PairWithoutFeatureDraft, SetUpWithoutGraph, CallBeforeSetUp}

-- what is wrong with a line, up to the word that is wrong
abbrev pub why_text : Complaint → List ℕ
why_text WordMissing = codes "word missing"
why_text (NoNumber w) = codes "no number: "
why_text MaskAbove255 = codes "mask above 255"
why_text (UnknownKind w) = codes "unknown kind: "
why_text (UnknownForm w) = codes "unknown form: "
why_text (UnknownCall w) = codes "unknown call: "
why_text (WordTooMany w) = codes "word too many: "
why_text EdgeWithoutGraph = codes "edge without a graph"
why_text PairWithoutFeatureDraft = codes "pair without a feature draft"
why_text SetUpWithoutGraph = codes "set-up without a graph"
why_text CallBeforeSetUp = codes "call before set-up"

-- the word that is wrong
abbrev pub wrong_word : Complaint → Option Span
wrong_word WordMissing = None
wrong_word (NoNumber w) = Some w
wrong_word MaskAbove255 = None
wrong_word (UnknownKind w) = Some w
wrong_word (UnknownForm w) = Some w
wrong_word (UnknownCall w) = Some w
wrong_word (WordTooMany w) = Some w
wrong_word EdgeWithoutGraph = None
wrong_word PairWithoutFeatureDraft = None
wrong_word SetUpWithoutGraph = None
wrong_word CallBeforeSetUp = None
