mod LeavesSideBySide
mod RisingPairs
