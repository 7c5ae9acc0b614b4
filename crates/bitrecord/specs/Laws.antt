-- What callers name by `using`: a set of laws of records.
use Rattle.bitrecord.specs.FieldLaws.{number-below, record-set, record-set_ok}
use Rattle.bitrecord.specs.RecordLaws.{is-layout, number-of-record, record-determines, record-encodable, written-back}
use Rattle.bitrecord.specs.TableLaws.{table-memory}

-- This set closes goals about the numbers of a record: each is that of its field, below `2^len`, and after one field was written they are the
-- old ones with this one set; and that of a table of fields that is a layout only memory can be refused.
pub ruleset records = (is-layout, number-below, number-of-record, record-encodable, record-determines, record-set, record-set_ok, table-memory, written-back)
