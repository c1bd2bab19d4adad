mod RecordTrees
mod RecordSlots
mod Records
