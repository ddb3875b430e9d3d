use Rattle.std.proofs.Common.{rules}
use Rattle.std.proofs.lemmas.Slice.Eq.{text_from_reads}
use Rattle.script.proofs.Said.{asks, by_kind, comes, goes, letters, lists, opens}
use Rattle.script.proofs.request_of.Goals as goal

pub returns-in-open : goal.returns-in-open
returns-in-open c = search (rules, text_from_reads, by_kind opens)

pub returns-in-list : goal.returns-in-list
returns-in-list c = search (rules, text_from_reads, by_kind lists)

pub returns-in-comes : goal.returns-in-comes
returns-in-comes c = search (rules, text_from_reads, by_kind comes)

pub returns-in-goes : goal.returns-in-goes
returns-in-goes c = search (rules, text_from_reads, by_kind goes)

pub returns-in-letter : goal.returns-in-letter
returns-in-letter c = search (rules, text_from_reads, by_kind letters)

pub returns-in-ask : goal.returns-in-ask
returns-in-ask c = search (rules, text_from_reads, by_kind asks)
